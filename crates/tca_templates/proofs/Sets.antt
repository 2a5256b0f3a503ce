-- What each kind of set does.
use Rattle.std.proofs.Common.{◌≡◌, ◌≢◌, ℕ, zero, suc, ◌+◌, [], ◌∷◌, length, get_or, add-one, drop-cons, ◌<◌, ◌≤◌, Bool, true, false, cond, List, drop, Option, Some, None, Result, Ok, refl, sym, ap, ◌∙◌, arith}
use Rattle.std.specs.Prelude.{nat_lt, ◌==◌, is_some}
use Rattle.std.proofs.lemmas.Bool.Decides.{nat_tests}
use Rattle.std.specs.Prelude.{◌||◌}
use Rattle.std.specs.List.{list_any}
use Rattle.std.proofs.lemmas.List.{length-drop, nil_from_length}
use Rattle.tca_join.specs.Results.{◌>>=◌}
use Rattle.tca_wire.proofs.Tiles.{blank_set}
use Rattle.tca_wire.specs.Walks.{walk}
use Rattle.tca_templates.specs.declared.source.Source.{Source}
use Rattle.tca_wire.specs.declared.message.SetSpan.{SetSpan}
use Rattle.tca_templates.specs.declared.fault.DecodeFault.{DecodeFault}
use Rattle.tca_templates.specs.Templates.{TemplateView, known}
use Rattle.tca_templates.specs.Specifiers.{template_front}
use Rattle.tca_templates.specs.Records.{data_front}
use Rattle.tca_templates.specs.Reading.{ReadMessage, with_templates, with_records, body_of, data_of, set_of, sets_on}

is_number : (m n : ℕ) → m ≡ n → (m == n) ≡ true
is_number m n h = grind (arith, nat_tests, h)

no_number : (m n : ℕ) → m ≢ n → (m == n) ≡ false
no_number m n h = grind (arith, nat_tests, h)

is_less : (m n : ℕ) → m < n → nat_lt m n ≡ true
is_less m n h = grind (arith, nat_tests, h)

no_less : (m n : ℕ) → n ≤ m → nat_lt m n ≡ false
no_less m n h = grind (arith, nat_tests, h)

module _ (h : Source) (octets : List ℕ) (given : ReadMessage) (s : SetSpan) where
  chain : Bool → Bool → Bool → Result ReadMessage DecodeFault
  chain a b d = cond a (with_templates given (walk (template_front h.domain false) given.templates (s.at + 4) (body_of octets s)))
      (cond b (with_templates given (walk (template_front h.domain true) given.templates (s.at + 4) (body_of octets s)))
      (cond d (Ok (record given { skipped = given.skipped + 1 })) (data_of h octets s given given.unplaced (known (h.domain, s.id) given.templates))))

  is_chain : set_of h octets given s ≡ chain (s.id == 2) (s.id == 3) (nat_lt s.id 256)
  unfolding set_of chain
  is_chain = refl

  pub set_2 : s.id ≡ 2 → set_of h octets given s ≡ with_templates given (walk (template_front h.domain false) given.templates (s.at + 4) (body_of octets s))
  unfolding chain
  set_2 e = is_chain ∙ ap (λ a. chain a (s.id == 3) (nat_lt s.id 256)) (is_number s.id 2 e)

  pub set_3 : s.id ≢ 2 → s.id ≡ 3 → set_of h octets given s ≡ with_templates given (walk (template_front h.domain true) given.templates (s.at + 4) (body_of octets s))
  unfolding chain
  set_3 n e = is_chain ∙ ap (λ a. chain a (s.id == 3) (nat_lt s.id 256)) (no_number s.id 2 n) ∙ ap (λ a. chain false a (nat_lt s.id 256)) (is_number s.id 3 e)

  pub set_skipped : s.id ≢ 2 → s.id ≢ 3 → s.id < 256 → set_of h octets given s ≡ Ok (record given { skipped = given.skipped + 1 })
  unfolding chain
  set_skipped n m l = is_chain ∙ ap (λ a. chain a (s.id == 3) (nat_lt s.id 256)) (no_number s.id 2 n) ∙ ap (λ a. chain false a (nat_lt s.id 256)) (no_number s.id 3 m)
      ∙ ap (λ a. chain false false a) (is_less s.id 256 l)

  pub set_data : s.id ≢ 2 → s.id ≢ 3 → 256 ≤ s.id → set_of h octets given s ≡ data_of h octets s given given.unplaced (known (h.domain, s.id) given.templates)
  unfolding chain
  set_data n m l = is_chain ∙ ap (λ a. chain a (s.id == 3) (nat_lt s.id 256)) (no_number s.id 2 n) ∙ ap (λ a. chain false a (nat_lt s.id 256)) (no_number s.id 3 m)
      ∙ ap (λ a. chain false false a) (no_less s.id 256 l)

  -- behind a set of an unknown template
  pub set_stopped : s.id ≢ 2 → s.id ≢ 3 → 256 ≤ s.id → is_some given.unplaced ≡ true → set_of h octets given s ≡ Ok given
  set_stopped n m l e = set_data n m l ∙ go given.unplaced e
    where
      go : (u : Option ℕ) → is_some u ≡ true → data_of h octets s given u (known (h.domain, s.id) given.templates) ≡ Ok given
      go (Some id) e = refl
      go None e = absurd cc

  open_set : s.id ≢ 2 → s.id ≢ 3 → 256 ≤ s.id → is_some given.unplaced ≡ false → set_of h octets given s ≡ data_of h octets s given None (known (h.domain, s.id) given.templates)
  open_set n m l e = set_data n m l ∙ go given.unplaced e
    where
      go : (u : Option ℕ) → is_some u ≡ false
          → data_of h octets s given u (known (h.domain, s.id) given.templates) ≡ data_of h octets s given None (known (h.domain, s.id) given.templates)
      go (Some id) e = absurd cc
      go None e = refl

  pub set_unknown : s.id ≢ 2 → s.id ≢ 3 → 256 ≤ s.id → is_some given.unplaced ≡ false → known (h.domain, s.id) given.templates ≡ None
      → set_of h octets given s ≡ Ok (record given { unplaced = Some s.id })
  set_unknown n m l e k = open_set n m l e ∙ ap (data_of h octets s given None) k

  pub set_known : s.id ≢ 2 → s.id ≢ 3 → 256 ≤ s.id → is_some given.unplaced ≡ false → (t : TemplateView) → known (h.domain, s.id) given.templates ≡ Some t
      → set_of h octets given s ≡ with_records given (walk (data_front h t) given.records (s.at + 4) (body_of octets s))
  set_known n m l e t k = open_set n m l e ∙ ap (data_of h octets s given None) k

-- one set after the other
pub sets_step : (h : Source) (octets : List ℕ) (given : ReadMessage) (ss : List SetSpan) (i : ℕ) (r : Result ReadMessage DecodeFault) → i < length ss
    → set_of h octets given (get_or ss i blank_set) ≡ r → sets_on h octets given (drop i ss) ≡ (r >>= (λ more. sets_on h octets more (drop (i + 1) ss)))
unfolding sets_on
sets_step h octets given ss i r lt e =
    rw (add-one) (ap (λ (l : List SetSpan). sets_on h octets given l) (drop-cons ss i blank_set lt) ∙ ap (λ (x : Result ReadMessage DecodeFault). x >>= (λ more. sets_on h octets more (drop (suc i) ss))) e)

pub sets_all : (h : Source) (octets : List ℕ) (given : ReadMessage) (ss : List SetSpan) (i : ℕ) → length ss ≤ i → sets_on h octets given (drop i ss) ≡ Ok given
unfolding sets_on
sets_all h octets given ss i le = ap (λ (l : List SetSpan). sets_on h octets given l) (nil_from_length (drop i ss) (omega (arith, length-drop i ss)))

neither : (a b : Bool) → (a || b) ≡ false → (a ≡ false) × (b ≡ false)
neither true b h = absurd cc
neither false b h = (refl, h)

pub none_at : (f : SetSpan → Bool) (ss : List SetSpan) (i : ℕ) → list_any f ss ≡ false → i < length ss → f (get_or ss i blank_set) ≡ false
none_at f [] i h lt = absurd (omega arith)
none_at f (s ∷ ss) zero h lt = (neither (f s) (list_any f ss) h).0
none_at f (s ∷ ss) (suc i) h lt = none_at f ss i (neither (f s) (list_any f ss) h).1 (omega arith)

or_else : (a b : Bool) → (a ≡ false → b ≡ true) → (a || b) ≡ true
or_else true b h = refl
or_else false b h = h refl

pub not_false : (b : Bool) → (b ≡ false → ⊥) → b ≡ true
not_false true h = refl
not_false false h = absurd (h refl)

pub any_at : (f : SetSpan → Bool) (ss : List SetSpan) (i : ℕ) → i < length ss → f (get_or ss i blank_set) ≡ true → list_any f ss ≡ true
any_at f ss i lt e = not_false (list_any f ss) (λ none. let no : f (get_or ss i blank_set) ≡ false = none_at f ss i none lt in let bad : true ≡ false = sym e ∙ no in absurd cc)
