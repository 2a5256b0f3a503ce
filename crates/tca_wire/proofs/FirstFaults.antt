-- The fault that is found is the first from the left, and the first from the left is found.
use Rattle.std.proofs.Common.{◌≡◌, ℕ, zero, suc, ◌+◌, ◌<◌, ◌≤◌, Bool, true, false, cond, List, [], ◌∷◌, ◌++◌, length, take, drop, Result, Ok, Err, refl, sym, ap, subst, ◌∙◌, arith, inl, inr}
use Rattle.std.specs.Prelude.{◌≢◌, ◌⊎◌, ◌==◌, nat_lt, not, IsOk}
use Rattle.tca_join.specs.Results.{Gives}
use Rattle.std.proofs.lemmas.Bool.Decides.{nat_tests}
use Rattle.std.proofs.lemmas.List.{length-drop}
use Rattle.byteorder.specs.Endian.{big_number}
use Rattle.tca_wire.specs.Walks.{walk}
use Rattle.tca_wire.specs.Messages.{judged, set_front, sets_of, version_at, length_at, header_at, with_header, message_of}
use Rattle.tca_wire.specs.Frames.{IsPart, IsFaulty}
use Rattle.tca_wire.specs.FirstFaults.{IsNoSet, EndsInNoSet, HasNoSet, IsFirstFault}
use Rattle.tca_wire.specs.declared.message.Header.{Header}
use Rattle.tca_wire.specs.declared.message.SetSpan.{SetSpan}
use Rattle.tca_wire.specs.declared.fault.WireFault.{WireFault}
use Rattle.tca_wire.specs.declared.fault.WireFault.TheVariants.{Short, BadVersion, BadLength, SetLength, SetPastEnd, Trailing, Memory}
use Rattle.tca_wire.proofs.Sets.{judged_ok, sets_next, sets_bad, sets_end}
use Rattle.tca_wire.proofs.Tiles.{stands_found, stands_only, not_lt}

-- one test of a chain of refusals: it refuses, or what follows it does
refused_by : {X F : Type 0} (b : Bool) (f : F) (more : Result X F) (g : F) → cond b (Err f) more ≡ Err g → ((b ≡ true) × (f ≡ g)) ⊎ ((b ≡ false) × (more ≡ Err g))
refused_by true f more g e = inl (refl, cc)
refused_by false f more g e = inr (refl, e)

one_fault : {X F : Type 0} (r : Result X F) (f g : F) → r ≡ Err f → r ≡ Err g → f ≡ g
one_fault (Ok x) f g p q = absurd cc
one_fault (Err h) f g p q = cc

no_fault : {X F : Type 0} (x : X) (f : F) → Ok x ≡ Err f → ⊥
no_fault x f e = absurd cc

either : (b : Bool) → (b ≡ true) ⊎ (b ≡ false)
either true = inl refl
either false = inr refl

lt_true : (m n : ℕ) → m < n → nat_lt m n ≡ true
lt_true m n h = grind (arith, nat_tests, h)

lt_holds : (m n : ℕ) → nat_lt m n ≡ true → m < n
lt_holds m n h = grind (arith, nat_tests, h)

le_holds : (m n : ℕ) → nat_lt m n ≡ false → n ≤ m
le_holds m n h = grind (arith, nat_tests, h)

ten : (n : ℕ) → n ≡ 10 → not (n == 10) ≡ false
ten n h = grind (arith, nat_tests, h)

ten_holds : (n : ℕ) → not (n == 10) ≡ false → n ≡ 10
ten_holds n h = grind (arith, nat_tests, h)

other_true : (n : ℕ) → n ≢ 10 → not (n == 10) ≡ true
other_true n h = grind (arith, nat_tests, h)

other_holds : (n : ℕ) → not (n == 10) ≡ true → n ≢ 10
other_holds n h = λ is. let same : not (n == 10) ≡ false = ten n is in absurd cc

no_set_holds : (at : ℕ) (octets : List ℕ) (fault : WireFault) → 0 < length octets → judged at octets ≡ Err fault → IsNoSet at octets fault
no_set_holds at octets fault some e =
    let n = big_number 2 (drop 2 octets) in
    elim (refused_by (nat_lt (length octets) 4) (Trailing at) _ fault e) [
      | inl few ↦ let here : IsNoSet at octets (Trailing at) = (refl, some, lt_holds _ _ few.0) in subst (λ (x : WireFault). IsNoSet at octets x) few.1 here
      | inr all ↦ elim (refused_by (nat_lt n 4) (SetLength at) _ fault all.1) [
        | inl low ↦ let here : IsNoSet at octets (SetLength at) = (refl, le_holds _ _ all.0, lt_holds _ _ low.0) in subst (λ (x : WireFault). IsNoSet at octets x) low.1 here
        | inr least ↦ elim (refused_by (nat_lt (length octets) n) (SetPastEnd at) _ fault least.1) [
          | inl past ↦ let here : IsNoSet at octets (SetPastEnd at) = (refl, le_holds _ _ all.0, le_holds _ _ least.0, lt_holds _ _ past.0) in subst (λ (x : WireFault). IsNoSet at octets x) past.1 here
          | inr within ↦ absurd (no_fault _ fault within.1)
        ]
      ]
    ]

no_set_judged : (at : ℕ) (octets : List ℕ) (fault : WireFault) → IsNoSet at octets fault → (0 < length octets) × (judged at octets ≡ Err fault)
no_set_judged at octets (Trailing n) h =
    let few = lt_true (length octets) 4 h.2 in
    (h.1, rw few (ap (λ (m : ℕ). Err (Trailing m)) (sym h.0)))
no_set_judged at octets (SetLength n) h =
    let all = not_lt (length octets) 4 h.1 in
    let low = lt_true (big_number 2 (drop 2 octets)) 4 h.2 in
    (omega (arith, h.1), rw (all, low) (ap (λ (m : ℕ). Err (SetLength m)) (sym h.0)))
no_set_judged at octets (SetPastEnd n) h =
    let all = not_lt (length octets) 4 h.1 in
    let least = not_lt (big_number 2 (drop 2 octets)) 4 h.2 in
    let past = lt_true (length octets) (big_number 2 (drop 2 octets)) h.3 in
    (omega (arith, h.1), rw (all, least, past) (ap (λ (m : ℕ). Err (SetPastEnd m)) (sym h.0)))
no_set_judged at octets Short h = absurd h
no_set_judged at octets (BadVersion v) h = absurd h
no_set_judged at octets (BadLength n) h = absurd h
no_set_judged at octets Memory h = absurd h

no_set_for : (most : ℕ) (ss : List SetSpan) (at : ℕ) (rest : List ℕ) (fault : WireFault) → length rest < most → walk set_front ss at rest ≡ Err fault
    → (before : List SetSpan) × EndsInNoSet before at rest fault
no_set_for zero ss at rest fault l e = absurd (omega arith)
no_set_for (suc most) ss at [] fault l e =
    let bad : Ok ss ≡ Err fault = sym (sets_end ss at [] refl) ∙ e in absurd cc
no_set_for (suc most) ss at (b ∷ bs) fault l e =
    go (λ ts at rest l e. no_set_for most ts at rest fault l e) (judged at (b ∷ bs)) refl
  where
    go : ((ts : List SetSpan) (at : ℕ) (rest : List ℕ) → length rest < most → walk set_front ts at rest ≡ Err fault → (before : List SetSpan) × EndsInNoSet before at rest fault)
        → (x : Result SetSpan WireFault) → judged at (b ∷ bs) ≡ x → (before : List SetSpan) × EndsInNoSet before at (b ∷ bs) fault
    go more (Err f) j =
        let same = one_fault (walk set_front ss at (b ∷ bs)) f fault (sets_bad ss at (b ∷ bs) f (omega arith) j) e in
        ([], subst (λ (x : WireFault). IsNoSet at (b ∷ bs) x) same (no_set_holds at (b ∷ bs) f (omega arith) j))
    go more (Ok s) j =
        let facts = judged_ok at (b ∷ bs) s j in
        let r = more (ss ++ s ∷ []) (at + s.length) (drop s.length (b ∷ bs)) (omega (arith, facts.least, facts.within, length-drop s.length (b ∷ bs)))
        (sym (sets_next ss at (b ∷ bs) s (omega arith) j) ∙ e) in
        (s ∷ r.0, (stands_found at (b ∷ bs) s j, r.1))

no_set_only : (before ss : List SetSpan) (at : ℕ) (rest : List ℕ) (fault : WireFault) → EndsInNoSet before at rest fault → walk set_front ss at rest ≡ Err fault
no_set_only [] ss at rest fault h = let j = no_set_judged at rest fault h in sets_bad ss at rest fault j.0 j.1
no_set_only (s ∷ before) ss at rest fault h =
    let j = stands_only at rest s h.0 in
    sets_next ss at rest s (omega (arith, j.1, j.2)) j.0 ∙ no_set_only before (ss ++ s ∷ []) (at + s.length) (drop s.length rest) fault h.1

sets_holds : (h : Header) (x : Result (List SetSpan) WireFault) (fault : WireFault) → with_header h x ≡ Err fault → x ≡ Err fault
sets_holds h (Ok ss) fault e = absurd cc
sets_holds h (Err f) fault e = let same : f ≡ fault = cc in ap (λ (x : WireFault). Err x) same

pub fault_found : (octets : List ℕ) (fault : WireFault) → message_of octets ≡ Err fault → IsFirstFault octets fault
unfolding message_of
fault_found octets fault e =
    let v = version_at octets in
    let n = length_at octets in
    elim (refused_by (nat_lt (length octets) 16) Short _ fault e) [
      | inl few ↦ inl (sym few.1, inl (lt_holds _ _ few.0))
      | inr all ↦ elim (refused_by (not (v == 10)) (BadVersion v) _ fault all.1) [
        | inl bad ↦ let here : IsFaulty octets (BadVersion v) = (le_holds _ _ all.0, refl, other_holds v bad.0) in inr (inl (subst (λ (x : WireFault). IsFaulty octets x) bad.1 here))
        | inr right ↦ elim (refused_by (nat_lt n 16) (BadLength n) _ fault right.1) [
          | inl low ↦ let here : IsFaulty octets (BadLength n) = (le_holds _ _ all.0, ten_holds v right.0, refl, lt_holds _ _ low.0) in inr (inl (subst (λ (x : WireFault). IsFaulty octets x) low.1 here))
          | inr room ↦ elim (refused_by (nat_lt (length octets) n) Short _ fault room.1) [
            | inl cut ↦ inl (sym cut.1, inr (ten_holds v right.0, le_holds _ _ room.0, lt_holds _ _ cut.0))
            | inr whole ↦
                let body = drop 16 (take n octets) in
                let found = no_set_for (suc (length body)) [] 16 body fault (omega arith) (sets_holds (header_at octets) (sets_of body) fault whole.1) in
                inr (inr (record { version = ten_holds v right.0; room = le_holds _ _ room.0; whole = le_holds _ _ whole.0; before = found.0; sets = found.1 }))
          ]
        ]
      ]
    ]

part_only : (octets : List ℕ) → IsPart octets → message_of octets ≡ Err Short
unfolding message_of
part_only octets part =
    elim part [
      | inl few ↦ let t = lt_true (length octets) 16 few in rw t refl
      | inr cut ↦ elim (either (nat_lt (length octets) 16)) [
        | inl t ↦ rw t refl
        | inr t ↦
            let right = ten (version_at octets) cut.0 in
            let room = not_lt (length_at octets) 16 cut.1 in
            let short = lt_true (length octets) (length_at octets) cut.2 in
            rw (t, right, room, short) refl
      ]
    ]

faulty_only : (octets : List ℕ) (fault : WireFault) → IsFaulty octets fault → message_of octets ≡ Err fault
unfolding message_of
faulty_only octets (BadVersion v) bad =
    let all = not_lt (length octets) 16 bad.0 in
    let other = other_true (version_at octets) (λ is. bad.2 (sym bad.1 ∙ is)) in
    rw (all, other) (ap (λ (m : ℕ). Err (BadVersion m)) bad.1)
faulty_only octets (BadLength n) bad =
    let all = not_lt (length octets) 16 bad.0 in
    let right = ten (version_at octets) bad.1 in
    let low = lt_true (length_at octets) 16 (omega (arith, bad.2, bad.3)) in
    rw (all, right, low) (ap (λ (m : ℕ). Err (BadLength m)) bad.2)
faulty_only octets Short bad = absurd bad
faulty_only octets (SetLength at) bad = absurd bad
faulty_only octets (SetPastEnd at) bad = absurd bad
faulty_only octets (Trailing at) bad = absurd bad
faulty_only octets Memory bad = absurd bad

sets_only : (octets : List ℕ) (fault : WireFault) → HasNoSet octets fault → message_of octets ≡ Err fault
unfolding message_of
sets_only octets fault h =
    let all = not_lt (length octets) 16 (omega (arith, h.room, h.whole)) in
    let right = ten (version_at octets) h.version in
    let room = not_lt (length_at octets) 16 h.room in
    let whole = not_lt (length octets) (length_at octets) h.whole in
    rw (all, right, room, whole) (ap (with_header (header_at octets)) (no_set_only h.before [] 16 _ fault h.sets))

pub fault_only : (octets : List ℕ) (fault : WireFault) → IsFirstFault octets fault → message_of octets ≡ Err fault
fault_only octets fault h =
    elim h [
      | inl part ↦ subst (λ (x : WireFault). message_of octets ≡ Err x) (sym part.0) (part_only octets part.1)
      | inr more ↦ elim more [
        | inl bad ↦ faulty_only octets fault bad
        | inr sets ↦ sets_only octets fault sets
      ]
    ]

-- a call that gives what is found, and wants memory for a message alone, answers the first fault
pub answers_fault : {X : Type 0} (view : X → Header × List SetSpan) (result : Result X WireFault) (octets : List ℕ) → Gives Memory view result (message_of octets)
    → (result ≡ Err Memory → IsOk (message_of octets)) → (fault : WireFault) → IsFirstFault octets fault → result ≡ Err fault
answers_fault {X = X} view result octets gives memory fault wrong = go result gives memory (fault_only octets fault wrong)
  where
    no_message : (r : Result (Header × List SetSpan) WireFault) → r ≡ Err fault → IsOk r → ⊥
    no_message (Ok x) e ok = absurd cc
    no_message (Err f) e ok = absurd cc

    go : (r : Result X WireFault) → Gives Memory view r (message_of octets) → (r ≡ Err Memory → IsOk (message_of octets)) → message_of octets ≡ Err fault → r ≡ Err fault
    go (Ok x) gives memory e = absurd cc
    go (Err Memory) gives memory e = absurd (no_message (message_of octets) e (memory refl))
    go (Err Short) gives memory e = let p : message_of octets ≡ Err Short = gives (λ x. cc) in cc
    go (Err (BadVersion v)) gives memory e = let p : message_of octets ≡ Err (BadVersion v) = gives (λ x. cc) in cc
    go (Err (BadLength n)) gives memory e = let p : message_of octets ≡ Err (BadLength n) = gives (λ x. cc) in cc
    go (Err (SetLength at)) gives memory e = let p : message_of octets ≡ Err (SetLength at) = gives (λ x. cc) in cc
    go (Err (SetPastEnd at)) gives memory e = let p : message_of octets ≡ Err (SetPastEnd at) = gives (λ x. cc) in cc
    go (Err (Trailing at)) gives memory e = let p : message_of octets ≡ Err (Trailing at) = gives (λ x. cc) in cc
