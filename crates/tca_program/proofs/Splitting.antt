-- A word is cut at its first at sign.
use Rattle.std.proofs.Common.{◌≡◌, ◌∙◌, ◌<◌, ◌≤◌, ◌+◌, ℕ, suc, Bool, true, false, cond, eqb, not, ◌&&◌, List, [], ◌∷◌, ◌++◌, length, take, drop, Option, Some, None, Result, ap, refl, sym, arith, rules, inl, inr, length-append}
use Rattle.std.specs.Prelude.{nat_lt}
use Rattle.std.specs.Borrow.{Bor}
use Rattle.std.specs.Char.{is_ascii_digit}
use Rattle.std.specs.Result.{result_ok}
use Rattle.std.specs.Str.Parse.{ParsesUnsigned, digits_value}
use Rattle.std.proofs.lemmas.Str.Parse.{IsNumeralModel, numerals_by_value, digits_value_short, parse_gives}
use Rattle.std.proofs.lemmas.Str.Pattern.{IsSplitOnceResult, split_once_first}
use Rattle.std.specs.List.{position_or_len, before_first, after_first, list_all}
use Rattle.std.proofs.lemmas.Bool.{eqb-true}
use Rattle.std.proofs.lemmas.Bool.Decides.{nat_tests}
use Rattle.tca_program.specs.Words.{is_session, session_in, IsNumbered, IsSplit}

abbrev is_at : ℕ → Bool
is_at c = eqb c 64

-- where a text has an at sign it is what stands before the first one, the sign, and what stands behind it
cut_there : (text : List ℕ) → position_or_len is_at text < length text → text ≡ before_first is_at text ++ (64 ∷ after_first is_at text)
cut_there [] h = absurd (omega (arith, h))
cut_there (c ∷ cs) h =
    elim (eqb c 64) as (λ t. eqb c 64 ≡ t → cond (not t) (1 + position_or_len is_at cs) 0 < length (c ∷ cs)
    → c ∷ cs ≡ take (cond (not t) (1 + position_or_len is_at cs) 0) (c ∷ cs) ++ (64 ∷ drop (cond (not t) (1 + position_or_len is_at cs) 0 + 1) (c ∷ cs))) [
      | true ↦ λ e less. ap (λ (d : ℕ). d ∷ cs) (eqb-true c 64 e)
      | false ↦ λ e less.
          let n = position_or_len is_at cs in
          let first : 1 + n ≡ suc n = omega arith in
          let second : suc n + 1 ≡ suc (n + 1) = omega arith in
          rw (first, second) (ap (λ (l : List ℕ). c ∷ l) (cut_there cs (omega (arith, less))))
    ] refl h

digit_alone : (c : ℕ) → is_ascii_digit c ≡ true → eqb c 64 ≡ false
digit_alone c e = grind (arith, nat_tests, e)

both_true : (a b : Bool) → (a && b) ≡ true → (a ≡ true) × (b ≡ true)
both_true true b e = (refl, e)
both_true false b e = absurd cc

-- digits have no at sign
first_at : (digits path : List ℕ) → list_all is_ascii_digit digits ≡ true → position_or_len is_at (digits ++ (64 ∷ path)) ≡ length digits
first_at [] path e = refl
first_at (c ∷ cs) path e =
    let both = both_true (is_ascii_digit c) (list_all is_ascii_digit cs) e in
    let alone = digit_alone c both.0 in
    rw alone (omega (arith, first_at cs path both.1))

taken : (digits path : List ℕ) → take (length digits) (digits ++ (64 ∷ path)) ≡ digits
taken [] path = refl
taken (c ∷ cs) path = ap (λ (l : List ℕ). c ∷ l) (taken cs path)

left : (digits path : List ℕ) → drop (length digits + 1) (digits ++ (64 ∷ path)) ≡ path
left [] path = refl
left (c ∷ cs) path =
    let second : length (c ∷ cs) + 1 ≡ suc (length cs + 1) = omega arith in
    rw second (left cs path)

session_some : (b : Bool) (v n : ℕ) → cond b (Some v) None ≡ Some n → b ≡ true
session_some true v n e = refl
session_some false v n e = absurd cc

-- the digits of a session are digits
digits_of : (digits : List ℕ) (n : ℕ) → session_in digits ≡ Some n → list_all is_ascii_digit digits ≡ true
digits_of digits n e =
    let whole = session_some (is_session digits && nat_lt (digits_value 10 digits) 4294967296) (digits_value 10 digits) n e in
    let session = (both_true (is_session digits) _ whole).0 in
    search rules

-- a word of this form is cut there
record IsCut (word digits path : List ℕ) : Type 0 where
  position : position_or_len is_at word ≡ length digits
  inside : position_or_len is_at word < length word
  front : before_first is_at word ≡ digits
  behind : after_first is_at word ≡ path

cut_of : (word : List ℕ) (n : ℕ) (path : List ℕ) (p : IsNumbered word n path) → IsCut word p.digits path
cut_of word n path p =
    let all = digits_of p.digits n p.number in
    let at : position_or_len is_at word ≡ length p.digits = ap (position_or_len is_at) p.whole ∙ first_at p.digits path all in
    record {
      position = at;
      inside = omega (arith, at, ap length p.whole, length-append p.digits (64 ∷ path));
      front = ap (λ (k : ℕ). take k word) at ∙ ap (take (length p.digits)) p.whole ∙ taken p.digits path;
      behind = ap (λ (k : ℕ). drop (k + 1) word) at ∙ ap (drop (length p.digits + 1)) p.whole ∙ left p.digits path;
    }

-- no at sign
pub none_split : (word : List ℕ) → IsSplitOnceResult 64 word None → IsSplit word 0 word
none_split word h =
    let far = split_once_first 64 word None h (omega arith) in
    inr (λ n path p. let c = cut_of word n path p in omega (arith, c.inside, far), refl, refl)

-- nothing stands behind it
pub empty_split : (word : List ℕ) (front path : Bor (List ℕ)) → IsSplitOnceResult 64 word (Some (front, path)) → length path.now ≡ 0 → IsSplit word 0 word
empty_split word front path h none =
    let all = split_once_first 64 word (Some (front, path)) h (omega arith) in
    inr (λ n other p. let c = cut_of word n other p in omega (arith, p.some, none, ap length (all.2 ∙ c.behind)), refl, refl)

-- no session stands before it
pub other_split : (word : List ℕ) (front path : Bor (List ℕ)) → IsSplitOnceResult 64 word (Some (front, path)) → session_in front.now ≡ None → IsSplit word 0 word
other_split word front path h none =
    let all = split_once_first 64 word (Some (front, path)) h (omega arith) in
    inr (
      λ n other p.
          let c = cut_of word n other p in
          let same : session_in front.now ≡ Some n = ap session_in (all.1 ∙ c.front) ∙ p.number in
          absurd cc,
      refl,
      refl,
    )

-- a session and a path
pub both_split : (word : List ℕ) (front path : Bor (List ℕ)) (n : ℕ) → IsSplitOnceResult 64 word (Some (front, path)) → session_in front.now ≡ Some n → 0 < length path.now → IsSplit word n path.now
both_split word front path n h is some =
    let all = split_once_first 64 word (Some (front, path)) h (omega arith) in
    inl (record {
      digits = front.now;
      whole = cut_there word all.0 ∙ ap (λ (l : List ℕ). l ++ (64 ∷ after_first is_at word)) (sym all.1) ∙ ap (λ (l : List ℕ). front.now ++ (64 ∷ l)) (sym all.2);
      number = is;
      some = some;
    })

own : IsNumeralModel (λ ds. list_all is_ascii_digit ds ≡ true) (digits_value 10)
own = numerals_by_value _ (search rules)

parts : (text : List ℕ) → is_session text ≡ true → (1 ≤ length text) × (length text ≤ 10) × (list_all is_ascii_digit text ≡ true)
parts text h = search rules

-- a number of ten digits is read
pub number_read : {E : Type 0} (text : List ℕ) (r : Result ℕ E) → is_session text ≡ true → ParsesUnsigned 64 10 text r → result_ok r ≡ Some (digits_value 10 text)
number_read text r is h =
    let all = parts text is in
    let short = digits_value_short own text 10 all.2 all.1 in
    ap result_ok (parse_gives own 64 text r h all.2 (omega (arith, all.0)) (omega (arith, short)))

pub none_some : (v : ℕ) → let x : Option ℕ = None in x ≡ Some v → ⊥
none_some v e = absurd cc
