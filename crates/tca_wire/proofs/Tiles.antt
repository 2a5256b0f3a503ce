-- What is found is the message's header and sets, and nothing else is.
use Rattle.std.proofs.Common.{◌≡◌, ℕ, zero, suc, ◌+◌, ◌*◌, ◌<◌, ◌≤◌, Bool, true, false, cond, List, [], ◌∷◌, ◌++◌, length, take, drop, get_or, Result, Ok, Err, refl, sym, ap, subst, ◌∙◌, arith, append_assoc}
use Rattle.std.specs.Prelude.{nat_lt, nat_le, ◌==◌, ◌&&◌, not}
use Rattle.std.proofs.lemmas.Bool.Decides.{nat_tests}
use Rattle.std.proofs.lemmas.List.{append-nil, length-drop}
use Rattle.byteorder.specs.Endian.{big_number}
use Rattle.tca_wire.specs.Walks.{walk}
use Rattle.tca_wire.specs.Messages.{judged, set_front, stands, tile, sets_of, header_at, with_header, message_of, IsMessage}
use Rattle.tca_wire.specs.declared.message.Header.{Header}
use Rattle.tca_wire.specs.declared.message.SetSpan.{SetSpan}
use Rattle.tca_wire.specs.declared.fault.WireFault.{WireFault}
use Rattle.tca_wire.specs.declared.fault.WireFault.TheVariants.{Short, BadVersion, BadLength, SetLength, SetPastEnd, Trailing}
use Rattle.tca_wire.proofs.Sets.{refused, judged_ok, sets_next, sets_bad, sets_end}

pub both : (a b : Bool) → a ≡ true → b ≡ true → (a && b) ≡ true
both true b h k = k
both false b h k = absurd cc

pub parts : (a b : Bool) → (a && b) ≡ true → (a ≡ true) × (b ≡ true)
parts true b h = (refl, h)
parts false b h = absurd cc

number_same : (m n : ℕ) → m ≡ n → (m == n) ≡ true
number_same m n h = grind (arith, nat_tests, h)

le_true : (m n : ℕ) → m ≤ n → nat_le m n ≡ true
le_true m n h = grind (arith, nat_tests, h)

pub stands_found : (at : ℕ) (octets : List ℕ) (s : SetSpan) → judged at octets ≡ Ok s → stands at s octets ≡ true
stands_found at octets s e =
    let j = judged_ok at octets s e in
    let a = number_same s.at at (ap (λ (x : SetSpan). x.at) j.is) in
    let i = number_same s.id (big_number 2 octets) (ap (λ (x : SetSpan). x.id) j.is) in
    let l = number_same s.length (big_number 2 (drop 2 octets)) (ap (λ (x : SetSpan). x.length) j.is) in
    both _ _ a (both _ _ i (both _ _ l (both _ _ (le_true 4 s.length j.least) (le_true s.length (length octets) j.within))))

same_number : (m n : ℕ) → (m == n) ≡ true → m ≡ n
same_number m n h = grind (arith, nat_tests, h)

le_holds : (m n : ℕ) → nat_le m n ≡ true → m ≤ n
le_holds m n h = grind (arith, nat_tests, h)

pub not_lt : (m n : ℕ) → n ≤ m → nat_lt m n ≡ false
not_lt m n h = grind (arith, nat_tests, h)

pub stands_only : (at : ℕ) (octets : List ℕ) (s : SetSpan) → stands at s octets ≡ true → (judged at octets ≡ Ok s) × (4 ≤ s.length) × (s.length ≤ length octets)
stands_only at octets s h =
    let n = big_number 2 (drop 2 octets) in
    let a = parts _ _ h in
    let b = parts _ _ a.1 in
    let l = parts _ _ b.1 in
    let m = parts _ _ l.1 in
    let at_is : s.at ≡ at = same_number s.at at a.0 in
    let id_is : s.id ≡ big_number 2 octets = same_number _ _ b.0 in
    let length_is : s.length ≡ n = same_number _ _ l.0 in
    let least : 4 ≤ s.length = le_holds _ _ m.0 in
    let within : s.length ≤ length octets = le_holds _ _ m.1 in
    let t1 : nat_lt (length octets) 4 ≡ false = not_lt _ _ (omega arith) in
    let t2 : nat_lt n 4 ≡ false = not_lt _ _ (omega arith) in
    let t3 : nat_lt (length octets) n ≡ false = not_lt _ _ (omega arith) in
    let found : SetSpan = record { id = big_number 2 octets; at = at; length = n } in
    let same : found ≡ s = λ i. record { id = sym id_is i; at = sym at_is i; length = sym length_is i } in
    let more : Result SetSpan WireFault = cond (nat_lt n 4) (Err (SetLength at)) (cond (nat_lt (length octets) n) (Err (SetPastEnd at)) (Ok found)) in
    let e1 : judged at octets ≡ more = ap (λ b. cond b (Err (Trailing at)) more) t1 in
    let e2 : more ≡ cond (nat_lt (length octets) n) (Err (SetPastEnd at)) (Ok found) = ap (λ b. cond b (Err (SetLength at)) (cond (nat_lt (length octets) n) (Err (SetPastEnd at)) (Ok found))) t2 in
    let e3 : cond (nat_lt (length octets) n) (Err (SetPastEnd at)) (Ok found) ≡ Ok found = ap (λ b. cond b (Err (SetPastEnd at)) (Ok found)) t3 in
    (e1 ∙ e2 ∙ e3 ∙ ap (λ (x : SetSpan). Ok x) same, least, within)

pub record IsTiled (at : ℕ) (rest : List ℕ) (ss out : List SetSpan) : Type 0 where
  pub more : List SetSpan
  pub is : out ≡ ss ++ more
  pub tiled : tile at more rest ≡ true

found_for : (most : ℕ) (ss out : List SetSpan) (at : ℕ) (rest : List ℕ) → length rest < most → walk set_front ss at rest ≡ Ok out → IsTiled at rest ss out
unfolding tile
found_for zero ss out at rest l e = absurd (omega arith)
found_for (suc most) ss out at [] l e =
    let h : Ok out ≡ Ok ss = sym e ∙ sets_end ss at [] refl in
    let k : out ≡ ss = cc in
    record { more = []; is = k ∙ sym (append-nil ss); tiled = refl }
found_for (suc most) ss out at (b ∷ bs) l e =
    go (λ ts at rest l e. found_for most ts out at rest l e) (judged at (b ∷ bs)) refl
  where
    go : ((ts : List SetSpan) (at : ℕ) (rest : List ℕ) → length rest < most → walk set_front ts at rest ≡ Ok out → IsTiled at rest ts out)
        → (x : Result SetSpan WireFault) → judged at (b ∷ bs) ≡ x → IsTiled at (b ∷ bs) ss out
    go more (Err f) j = let bad : Ok out ≡ Err f = sym e ∙ sets_bad ss at (b ∷ bs) f (omega arith) j in absurd cc
    go more (Ok s) j =
        let facts = judged_ok at (b ∷ bs) s j in
        let r = more (ss ++ s ∷ []) (at + s.length) (drop s.length (b ∷ bs)) (omega (arith, facts.least, facts.within, length-drop s.length (b ∷ bs)))
        (sym (sets_next ss at (b ∷ bs) s (omega arith) j) ∙ e) in
        record { more = s ∷ r.more; is = r.is ∙ append_assoc ss (s ∷ []) r.more; tiled = both _ _ (stands_found at (b ∷ bs) s j) r.tiled }

tile_only : (more ss : List SetSpan) (at : ℕ) (rest : List ℕ) → tile at more rest ≡ true → walk set_front ss at rest ≡ Ok (ss ++ more)
unfolding tile
tile_only [] ss at rest h = sets_end ss at rest (same_number _ _ h) ∙ ap (λ (x : List SetSpan). Ok x) (sym (append-nil ss))
tile_only (s ∷ more) ss at rest h =
    let p = parts (stands at s rest) _ h in
    let j = stands_only at rest s p.0 in
    sets_next ss at rest s (omega (arith, j.1, j.2)) j.0 ∙ tile_only more (ss ++ s ∷ []) (at + s.length) (drop s.length rest) p.1
    ∙ ap (λ (x : List SetSpan). Ok x) (append_assoc ss (s ∷ []) more)

pub sets_found : (octets : List ℕ) (ss : List SetSpan) → sets_of octets ≡ Ok ss → tile 16 ss octets ≡ true
sets_found octets ss e =
    let t = found_for (suc (length octets)) [] ss 16 octets (omega arith) e in
    subst (λ (x : List SetSpan). tile 16 x octets ≡ true) (sym t.is) t.tiled

header_holds : (h k : Header) (ss : List SetSpan) (x : Result (List SetSpan) WireFault) → with_header k x ≡ Ok (h, ss) → (h ≡ k) × (x ≡ Ok ss)
header_holds h k ss (Ok ts) e =
    let found : Header × List SetSpan = (k, ts) in
    let given : Header × List SetSpan = (h, ss) in
    let same : found ≡ given = cc in
    (sym (ap (λ (x : Header × List SetSpan). x.0) same), ap (λ (x : Header × List SetSpan). Ok x.1) same)
header_holds h k ss (Err f) e = absurd cc

pub message_found : (octets : List ℕ) (h : Header) (ss : List SetSpan) → message_of octets ≡ Ok (h, ss) → IsMessage octets h ss
unfolding message_of
message_found octets h ss e =
    let n = big_number 2 (drop 2 octets) in
    let x : Header × List SetSpan = (h, ss) in
    let a = refused (nat_lt (length octets) 16) Short _ x e in
    let b = refused (not (big_number 2 octets == 10)) (BadVersion (big_number 2 octets)) _ x a.1 in
    let c = refused (nat_lt n 16) (BadLength n) _ x b.1 in
    let d = refused (nat_lt (length octets) n) Short _ x c.1 in
    let t = header_holds h (header_at octets) ss (sets_of (drop 16 (take n octets))) d.1 in
    let l : h.length ≡ n = ap (λ (x : Header). x.length) t.0 in
    record {
      version = grind (arith, nat_tests, b.0);
      header = t.0;
      room = grind (arith, nat_tests, c.0, l);
      whole = grind (arith, nat_tests, d.0, l);
      sets = subst (λ m. tile 16 ss (drop 16 (take m octets)) ≡ true) (sym l) (sets_found (drop 16 (take n octets)) ss t.1);
    }

pub message_only : (octets : List ℕ) (h : Header) (ss : List SetSpan) → IsMessage octets h ss → message_of octets ≡ Ok (h, ss)
unfolding message_of
message_only octets h ss m =
    let n = big_number 2 (drop 2 octets) in
    let l : h.length ≡ n = ap (λ (x : Header). x.length) m.header in
    let t1 : nat_lt (length octets) 16 ≡ false = not_lt _ _ (omega (arith, m.room, m.whole)) in
    let t2 : not (big_number 2 octets == 10) ≡ false = grind (arith, nat_tests, m.version) in
    let t3 : nat_lt n 16 ≡ false = not_lt _ _ (omega (arith, m.room, l)) in
    let t4 : nat_lt (length octets) n ≡ false = not_lt _ _ (omega (arith, m.whole, l)) in
    let s : sets_of (drop 16 (take n octets)) ≡ Ok ss = tile_only ss [] 16 _ (subst (λ m. tile 16 ss (drop 16 (take m octets)) ≡ true) l m.sets) in
    rw (t1, t2, t3, t4) (ap (with_header (header_at octets)) s ∙ ap (λ (x : Header). Ok (x, ss)) (sym m.header))

abbrev pub blank_set : SetSpan
blank_set = record { id = 0; at = 0; length = 0 }

-- where a set of a message lies
pub record IsSpan (at : ℕ) (rest : List ℕ) (s : SetSpan) : Type 0 where
  pub from : at ≤ s.at
  pub least : 4 ≤ s.length
  pub within : s.at + s.length ≤ at + length rest

first_span : (at : ℕ) (rest : List ℕ) (s : SetSpan) → stands at s rest ≡ true → (s.at ≡ at) × (4 ≤ s.length) × (s.length ≤ length rest)
first_span at rest s h =
    let p = stands_only at rest s h in
    let j = judged_ok at rest s p.0 in
    (ap (λ (x : SetSpan). x.at) j.is, p.1, p.2)

pub tile_span : (ss : List SetSpan) (at : ℕ) (rest : List ℕ) → tile at ss rest ≡ true → (i : ℕ) → i < length ss → IsSpan at rest (get_or ss i blank_set)
unfolding tile
tile_span [] at rest h i lt = absurd (omega arith)
tile_span (s ∷ ss) at rest h zero lt =
    let f = first_span at rest s (parts (stands at s rest) _ h).0 in
    record { from = omega (arith, f.0); least = f.1; within = omega (arith, f.0, f.2) }
tile_span (s ∷ ss) at rest h (suc i) lt =
    let p = parts (stands at s rest) _ h in
    let f = first_span at rest s p.0 in
    let r = tile_span ss (at + s.length) (drop s.length rest) p.1 i (omega arith) in
    record { from = omega (arith, r.from); least = r.least; within = omega (arith, r.within, f.2, length-drop s.length rest) }

pub tile_next : (ss : List SetSpan) (at : ℕ) (rest : List ℕ) → tile at ss rest ≡ true → (i : ℕ) → suc i < length ss
    → (get_or ss (suc i) blank_set).at ≡ (get_or ss i blank_set).at + (get_or ss i blank_set).length
unfolding tile
tile_next [] at rest h i lt = absurd (omega arith)
tile_next (s ∷ []) at rest h i lt = absurd (omega arith)
tile_next (s ∷ t ∷ ss) at rest h zero lt =
    let p = parts (stands at s rest) _ h in
    let q = parts (stands (at + s.length) t (drop s.length rest)) _ p.1 in
    let f = first_span at rest s p.0 in
    let g = first_span (at + s.length) (drop s.length rest) t q.0 in
    omega (arith, f.0, g.0)
tile_next (s ∷ t ∷ ss) at rest h (suc i) lt = tile_next (t ∷ ss) (at + s.length) (drop s.length rest) (parts (stands at s rest) _ h).1 i (omega arith)

pub tile_few : (ss : List SetSpan) (at : ℕ) (rest : List ℕ) → tile at ss rest ≡ true → 4 * length ss ≤ length rest
unfolding tile
tile_few [] at rest h = omega arith
tile_few (s ∷ ss) at rest h =
    let p = parts (stands at s rest) _ h in
    let f = first_span at rest s p.0 in
    omega (arith, f.1, f.2, tile_few ss (at + s.length) (drop s.length rest) p.1, length-drop s.length rest)
