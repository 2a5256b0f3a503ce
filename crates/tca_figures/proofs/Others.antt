-- Where a statement tells of another account.
use Rattle.std.proofs.Common.{Bool, true, false, not, ◌==◌, true≢false, ◌≡◌, ◌≢◌, ◌+◌, ◌++◌, ◌∷◌, [], ℕ, suc, List, length, take, min, arith, sym, ap, refl, ◌∙◌, Some, None}
use Rattle.std.specs.Prelude.{slice_get}
use Rattle.std.specs.List.{flat_map}
use Rattle.std.proofs.Math.Seq.{take-append_seam}
use Rattle.std.proofs.lemmas.List.{length-append, map-append, nil_from_length}
use Rattle.std.proofs.lemmas.Grind.{flat_map-append}
use Rattle.std.proofs.lemmas.Slice.Eq.{bytes_eq-Decides}
use Rattle.std.specs.Str.{bytes_eq}
use Rattle.tca_figures.specs.Figures.{StatedAccount}
use Rattle.tca_figures.specs.Lines.{account_lines}
use Rattle.tca_figures.specs.Reading.{line_number}
use Rattle.tca_figures.specs.Sums.{IsOtherAccount, names}

behind : (front left : List StatedAccount) → slice_get (names (front ++ left)) (length front) ≡ slice_get (names left) 0
behind [] left = refl
behind (a ∷ front) left = behind front left

pub names_length : (accounts : List StatedAccount) → length (names accounts) ≡ length accounts
names_length [] = refl
names_length (a ∷ accounts) = ap suc (names_length accounts)

pub as_many : (front others : List StatedAccount) → names front ≡ names others → length front ≡ length others
as_many front others e = sym (names_length front) ∙ (ap length e ∙ names_length others)

-- accounts that are read so far, and the next ones, which differ
pub other_here : (accounts bs front left others right : List StatedAccount) (line : ℕ) → accounts ≡ front ++ left → bs ≡ others ++ right → names front ≡ names others
    → slice_get (names left) 0 ≢ slice_get (names right) 0 → line ≡ line_number (5 + length (flat_map account_lines others)) → IsOtherAccount accounts bs line
other_here accounts bs front left others right line ea eb same differ at =
    let count = as_many front others same in
    let first : take (length front) accounts ≡ front = ap (take (length front)) ea ∙ take-append_seam front left in
    let second : take (length front) bs ≡ others = ap (λ n. take n bs) count ∙ (ap (take (length others)) eb ∙ take-append_seam others right) in
    record {
      before = length front;
      same = ap names first ∙ (same ∙ sym (ap names second));
      differ = λ e. differ (sym (behind front left) ∙ (ap (λ z. slice_get (names z) (length front)) (sym ea)
          ∙ (e ∙ (ap (λ n. slice_get (names bs) n) count ∙ (ap (λ z. slice_get (names z) (length others)) eb ∙ behind others right)))));
      number = at ∙ ap (λ z. line_number (5 + length (flat_map account_lines z))) (sym second);
    }

some_none : (a : StatedAccount) (left left_behind right : List StatedAccount) → left ≡ a ∷ left_behind → length right ≡ 0 → slice_get (names left) 0 ≢ slice_get (names right) 0
some_none a left left_behind right e n h =
    let none = nil_from_length right n in
    let bad : Some a.name ≡ None = ap (λ z. slice_get (names z) 0) (sym e) ∙ (h ∙ ap (λ z. slice_get (names z) 0) none) in
    absurd cc

pub too_few : (a : StatedAccount) (left left_behind right : List StatedAccount) → left ≡ a ∷ left_behind → length right ≡ 0 → slice_get (names left) 0 ≢ slice_get (names right) 0
too_few a left left_behind right e n h = some_none a left left_behind right e n h

pub too_many : (left right : List StatedAccount) → length left ≡ 0 → length right ≢ 0 → slice_get (names left) 0 ≢ slice_get (names right) 0
too_many left right n more h = elim right as (λ z. right ≡ z → ⊥) [
  | [] ↦ λ e. more (ap length e)
  | ◌∷◌ b others ↦ λ e. some_none b right others left e n (sym h)
] refl

pub not_same : (a b : StatedAccount) (left left_behind right right_behind : List StatedAccount) → left ≡ a ∷ left_behind → right ≡ b ∷ right_behind → a.name ≢ b.name
    → slice_get (names left) 0 ≢ slice_get (names right) 0
not_same a b left left_behind right right_behind ea eb apart h =
    let both : Some a.name ≡ Some b.name = ap (λ z. slice_get (names z) 0) (sym ea) ∙ (h ∙ ap (λ z. slice_get (names z) 0) eb) in
    apart cc

pub names_push : (front others : List StatedAccount) (a b : StatedAccount) → names front ≡ names others → a.name ≡ b.name → names (front ++ a ∷ []) ≡ names (others ++ b ∷ [])
names_push front others a b h e =
    map-append (λ (z : StatedAccount). z.name) front (a ∷ [])
    ∙ (ap (λ z. z ++ a.name ∷ []) h ∙ (ap (λ z. names others ++ z ∷ []) e ∙ sym (map-append (λ (z : StatedAccount). z.name) others (b ∷ []))))

pub line_push : (others : List StatedAccount) (b : StatedAccount) (line next : ℕ) → line ≡ line_number (5 + length (flat_map account_lines others))
    → next ≡ min (line + length (account_lines b)) 4294967295 → next ≡ line_number (5 + length (flat_map account_lines (others ++ b ∷ [])))
line_push others b line next h e =
    let lines = flat_map account_lines others in
    let all : flat_map account_lines (others ++ b ∷ []) ≡ lines ++ (account_lines b ++ []) = flat_map-append account_lines others (b ∷ []) in
    let count : length (flat_map account_lines (others ++ b ∷ [])) ≡ length lines + length (account_lines b)
    = omega (arith, ap length all, length-append lines (account_lines b ++ []), length-append (account_lines b) []) in
    rw count (omega (arith, h, e))

-- what a test of two names tells
pub same_name : (x y a b : List ℕ) → false ≡ not (bytes_eq x y) → x ≡ a → y ≡ b → a ≡ b
same_name x y a b e ea eb = sym ea ∙ ((bytes_eq-Decides x y).0 (not_false (bytes_eq x y) e) ∙ eb)
  where
    not_false : (t : Bool) → false ≡ not t → t ≡ true
    not_false true h = refl
    not_false false h = absurd (true≢false (sym h))

pub other_name : (x y a b : List ℕ) → true ≡ not (bytes_eq x y) → x ≡ a → y ≡ b → a ≢ b
other_name x y a b e ea eb same = absurd (true≢false (e ∙ ap not ((bytes_eq-Decides x y).1 (ea ∙ (same ∙ sym eb)))))

pub not_empty : (n : ℕ) → false ≡ (n == 0) → n ≢ 0
not_empty n e h = absurd (true≢false (sym (e ∙ ap (λ z. z == 0) h)))
