-- The steps of going over the sets, and that what was found tiles the octets.
use Rattle.std.proofs.Common.{◌≡◌, ℕ, ◌+◌, ◌<◌, ◌≤◌, Bool, true, false, cond, List, [], ◌∷◌, ◌++◌, length, drop, Result, Ok, Err, refl, sym, ap, subst, ◌∙◌, arith, inl, inr}
use Rattle.std.specs.Prelude.{nat_lt, ◌⊎◌, IsOk}
use Rattle.std.proofs.lemmas.Bool.Decides.{nat_tests}
use Rattle.byteorder.specs.Endian.{big_number}
use Rattle.tca_wire.specs.Walks.{Next, walk, Advances}
use Rattle.tca_wire.specs.Messages.{judged, after, set_front}
use Rattle.tca_wire.specs.declared.message.SetSpan.{SetSpan}
use Rattle.tca_wire.specs.declared.fault.WireFault.{WireFault}
use Rattle.tca_wire.specs.declared.fault.WireFault.TheVariants.{SetLength, SetPastEnd, Trailing}
use Rattle.tca_wire.proofs.Walking.{walk_next, walk_ends, walk_bad}

-- one test of a chain of refusals
pub refused : {X F : Type 0} (b : Bool) (f : F) (more : Result X F) (x : X) → cond b (Err f) more ≡ Ok x → (b ≡ false) × (more ≡ Ok x)
refused true f more x e = absurd cc
refused false f more x e = (refl, e)

pub record IsJudged (at : ℕ) (octets : List ℕ) (s : SetSpan) : Type 0 where
  pub is : s ≡ record { id = big_number 2 octets; at = at; length = big_number 2 (drop 2 octets) }
  pub least : 4 ≤ s.length
  pub within : s.length ≤ length octets

pub judged_ok : (at : ℕ) (octets : List ℕ) (s : SetSpan) → judged at octets ≡ Ok s → IsJudged at octets s
judged_ok at octets s e =
    let n = big_number 2 (drop 2 octets) in
    let found : SetSpan = record { id = big_number 2 octets; at = at; length = n } in
    let a = refused (nat_lt (length octets) 4) (Trailing at) _ s e in
    let b = refused (nat_lt n 4) (SetLength at) _ s a.1 in
    let c = refused (nat_lt (length octets) n) (SetPastEnd at) _ s b.1 in
    let is : s ≡ found = cc in
    let l : s.length ≡ n = ap (λ (x : SetSpan). x.length) is in
    record { is = is; least = grind (arith, nat_tests, b.0, l); within = grind (arith, nat_tests, c.0, l) }

-- the first set was found: it is this one, or stood before it
pub first_found : (octets : List ℕ) (at : ℕ) (rest : List ℕ) (s : SetSpan) → ((at ≡ 16) × (rest ≡ octets)) ⊎ IsOk (judged 16 octets) → judged at rest ≡ Ok s → IsOk (judged 16 octets)
first_found octets at rest s (inr before) e = before
first_found octets at rest s (inl here) e =
    let found : judged 16 octets ≡ Ok s = ap (λ (n : ℕ). judged n octets) (sym here.0) ∙ ap (judged at) (sym here.1) ∙ e in
    subst (λ x. IsOk x) (sym found) refl

pub front_more : (ss : List SetSpan) (at : ℕ) (rest : List ℕ) → 0 < length rest → set_front ss at rest ≡ after ss (judged at rest)
unfolding set_front
front_more ss at [] some = absurd (omega arith)
front_more ss at (b ∷ bs) some = refl

after_next : (ss t : List SetSpan) (n : ℕ) (x : Result SetSpan WireFault) → after ss x ≡ Next t n → (s : SetSpan) × (x ≡ Ok s) × (t ≡ ss ++ s ∷ []) × (n ≡ s.length)
after_next ss t n (Ok s) e = (s, refl, cc, cc)
after_next ss t n (Err f) e = absurd cc

pub sets_advance : Advances set_front
unfolding set_front
sets_advance ss t at n [] e = absurd cc
sets_advance ss t at n (b ∷ bs) e =
    let f = after_next ss t n (judged at (b ∷ bs)) e in
    let j = judged_ok at (b ∷ bs) f.0 f.1 in
    (omega (arith, j.least, f.3), omega (arith, j.within, f.3))

pub sets_next : (ss : List SetSpan) (at : ℕ) (rest : List ℕ) (s : SetSpan) → 0 < length rest → judged at rest ≡ Ok s
    → walk set_front ss at rest ≡ walk set_front (ss ++ s ∷ []) (at + s.length) (drop s.length rest)
sets_next ss at rest s some e = walk_next set_front sets_advance ss (ss ++ s ∷ []) at s.length rest (front_more ss at rest some ∙ ap (after ss) e)

pub sets_bad : (ss : List SetSpan) (at : ℕ) (rest : List ℕ) (f : WireFault) → 0 < length rest → judged at rest ≡ Err f → walk set_front ss at rest ≡ Err f
sets_bad ss at rest f some e = walk_bad set_front sets_advance ss at rest f (front_more ss at rest some ∙ ap (after ss) e)

pub sets_end : (ss : List SetSpan) (at : ℕ) (rest : List ℕ) → length rest ≡ 0 → walk set_front ss at rest ≡ Ok ss
unfolding set_front
sets_end ss at [] none = walk_ends set_front sets_advance ss at [] refl
sets_end ss at (b ∷ bs) none = absurd (omega arith)
