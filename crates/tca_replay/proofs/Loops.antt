-- Lists that are gone through from the front.
use Rattle.std.proofs.Common.{◌≡◌, ℕ, zero, suc, ◌+◌, ◌<◌, ◌≤◌, false, List, [], ◌∷◌, ◌++◌, length, get_or, set, take, Option, Some, None, refl, ap, ◌∙◌, arith, add-one, inl, inr}
use Rattle.std.specs.Prelude.{map, sum_by, IfSome, slice_get}
use Rattle.std.specs.List.{AllByRecursion}
use Rattle.std.proofs.lemmas.Bool.{cases_lt}
use Rattle.std.proofs.lemmas.List.{length_push, get_or_push, get_or_append_left}
use Rattle.std.proofs.lemmas.List.Sums.{sum_by-cons}
use Rattle.tca_meters.specs.Termed.{TermedMeter}
use Rattle.tca_meters.specs.declared.colour.Colour.{Colour}
use Rattle.tca_accounts.specs.Plans.{AccountPlan, PlannedAccount}
use Rattle.tca_replay.specs.Lanes.{LaneView, lane_resumed}
use Rattle.tca_accounts.proofs.Bills.{field_at}
use Rattle.tca_accounts.proofs.Periods.{all_push}
use Rattle.tca_replay.specs.Books.{all_steps, changed_rows, most_steps, steps_of, IsLaneOf, AreEmpty}

module _ {A : Type 0} (f : A → A) where
  -- the list with its first members changed
  abbrev pub mapped_to : ℕ → List A → List A
  mapped_to zero xs = xs
  mapped_to (suc n) [] = []
  mapped_to (suc n) (x ∷ xs) = f x ∷ mapped_to n xs

  pub mapped_all : (n : ℕ) (xs : List A) → length xs ≤ n → mapped_to n xs ≡ map f xs
  mapped_all zero [] h = refl
  mapped_all zero (x ∷ xs) h = absurd (omega arith)
  mapped_all (suc n) [] h = refl
  mapped_all (suc n) (x ∷ xs) h = ap (λ (l : List A). f x ∷ l) (mapped_all n xs (omega arith))

  pub get_mapped : (n : ℕ) (xs : List A) (d : A) → get_or (mapped_to n xs) n d ≡ get_or xs n d
  get_mapped zero xs d = refl
  get_mapped (suc n) [] d = refl
  get_mapped (suc n) (x ∷ xs) d = get_mapped n xs d

  pub length-mapped_to : (n : ℕ) (xs : List A) → length (mapped_to n xs) ≡ length xs
  length-mapped_to zero xs = refl
  length-mapped_to (suc n) [] = refl
  length-mapped_to (suc n) (x ∷ xs) = ap suc (length-mapped_to n xs)

  set_mapped_suc : (n : ℕ) (xs : List A) (d y : A) → n < length xs → y ≡ f (get_or xs n d) → set (mapped_to n xs) n y ≡ mapped_to (suc n) xs
  set_mapped_suc n [] d y h e = absurd (omega arith)
  set_mapped_suc zero (x ∷ xs) d y h e = ap (λ (z : A). z ∷ xs) e
  set_mapped_suc (suc n) (x ∷ xs) d y h e = ap (λ (l : List A). f x ∷ l) (set_mapped_suc n xs d y (omega arith) e)

  pub set_mapped : (n : ℕ) (xs : List A) (d y : A) → n < length xs → y ≡ f (get_or xs n d) → set (mapped_to n xs) n y ≡ mapped_to (n + 1) xs
  set_mapped n xs d y h e = rw add-one (set_mapped_suc n xs d y h e)

module _ {A : Type 0} (g : A → ℕ) where
  -- the sum of the first members
  abbrev pub sum_to : ℕ → List A → ℕ
  sum_to zero xs = 0
  sum_to (suc n) [] = 0
  sum_to (suc n) (x ∷ xs) = g x + sum_to n xs

  sum_more_suc : (n : ℕ) (xs : List A) (d : A) → n < length xs → sum_to (suc n) xs ≡ sum_to n xs + g (get_or xs n d)
  sum_more_suc n [] d h = absurd (omega arith)
  sum_more_suc zero (x ∷ xs) d h = omega arith
  sum_more_suc (suc n) (x ∷ xs) d h = omega (arith, sum_more_suc n xs d (omega arith))

  pub sum_more : (n : ℕ) (xs : List A) (d : A) → n < length xs → sum_to (n + 1) xs ≡ sum_to n xs + g (get_or xs n d)
  sum_more n xs d h = rw add-one (sum_more_suc n xs d h)

  pub sum_all : (n : ℕ) (xs : List A) → length xs ≤ n → sum_to n xs ≡ sum_by g xs
  sum_all zero [] h = refl
  sum_all zero (x ∷ xs) h = absurd (omega arith)
  sum_all (suc n) [] h = refl
  sum_all (suc n) (x ∷ xs) h = omega (arith, sum_all n xs (omega arith), sum_by-cons g x xs)

steps_by : (l : LaneView TermedMeter) (o : Option ℕ) (s : ℕ) → (o ≡ None → s ≡ 0) → IfSome o (λ p. s + p ≤ length l.rows + l.k) → s ≤ steps_of l o
steps_by l None s none some = let e : s ≡ 0 = none refl in omega arith
steps_by l (Some p) s none some = omega (arith, some)

pub steps_bound : (l : LaneView TermedMeter) (s : ℕ) → (l.changed ≡ None → s ≡ 0) → IfSome l.changed (λ p. s + p ≤ length l.rows + l.k) → s ≤ steps_of l l.changed
steps_bound l s none some = steps_by l l.changed s none some

rows_by : (l : LaneView TermedMeter) (o : Option ℕ) (s : ℕ) → IfSome o (λ p. length l.rows ≤ s + p) → changed_rows l o ≤ s
rows_by l None s all = omega arith
rows_by l (Some p) s all = omega (arith, all)

pub rows_bound : (l : LaneView TermedMeter) (s : ℕ) → IfSome l.changed (λ p. length l.rows ≤ s + p) → changed_rows l l.changed ≤ s
rows_bound l s all = rows_by l l.changed s all

-- what holds of all holds at a place
pub all_at : {A : Type 0} (P : A → Type 0) (n : ℕ) (xs : List A) (d : A) → AllByRecursion P xs → n < length xs → P (get_or xs n d)
all_at P n [] d a h = absurd (omega arith)
all_at P zero (x ∷ xs) d a h = a.0
all_at P (suc n) (x ∷ xs) d a h = all_at P n xs d a.1 (omega arith)

-- one more value of a list
take_suc : {A : Type 0} (n : ℕ) (xs : List A) (d : A) → n < length xs → take (suc n) xs ≡ take n xs ++ get_or xs n d ∷ []
take_suc n [] d h = absurd (omega arith)
take_suc zero (x ∷ xs) d h = refl
take_suc (suc n) (x ∷ xs) d h = ap (λ (l : List _). x ∷ l) (take_suc n xs d (omega arith))

map_snoc : {A B : Type 0} (f : A → B) (xs : List A) (x : A) → map f (xs ++ x ∷ []) ≡ map f xs ++ f x ∷ []
map_snoc f [] x = refl
map_snoc f (y ∷ xs) x = ap (λ (l : List _). f y ∷ l) (map_snoc f xs x)

pub map_more : {A B : Type 0} (f : A → B) (n : ℕ) (xs : List A) (d : A) → n < length xs → map f (take (n + 1) xs) ≡ map f (take n xs) ++ f (get_or xs n d) ∷ []
map_more f n xs d h = rw add-one (ap (map f) (take_suc n xs d h) ∙ map_snoc f (take n xs) (get_or xs n d))

-- the lanes of the first accounts
pub record AreFirst (plan : AccountPlan) (marks n : ℕ) (lanes : List (LaneView TermedMeter)) : Type 0 where
  pub count : length lanes ≡ n
  pub each : (k : ℕ) (a : PlannedAccount) (l : LaneView TermedMeter) → k < n → IsLaneOf plan.period marks (get_or plan.accounts k a) (get_or lanes k l)
  pub empty : AreEmpty lanes

pub none_first : (plan : AccountPlan) (marks : ℕ) (lanes : List (LaneView TermedMeter)) → lanes ≡ [] → AreFirst plan marks 0 lanes
none_first plan marks lanes is = rw is (record { count = refl; each = λ k a l h. absurd (omega arith); empty = tt })

pub first_more : (plan : AccountPlan) (marks n : ℕ) (lanes : List (LaneView TermedMeter)) (meter : TermedMeter) (other : Colour) → AreFirst plan marks n lanes → n < length plan.accounts
    → slice_get (map (λ a. a.meter) plan.accounts) n ≡ Some meter → slice_get (map (λ a. a.other) plan.accounts) n ≡ Some other
    → AreFirst plan marks (n + 1) (lanes ++ record { meter = meter; other = other; period = plan.period; k = marks; rows = []; changed = None; ready = false } ∷ [])
first_more plan marks n lanes meter other b inside meter-is other-is =
    let new : LaneView TermedMeter = record { meter = meter; other = other; period = plan.period; k = marks; rows = []; changed = None; ready = false } in
    record {
      count = length_push lanes new ∙ ap (λ m. m + 1) b.count;
      each = λ k a l h. elim (cases_lt k n) [
        | inl below ↦ rw (get_or_append_left lanes (new ∷ []) l k (omega (arith, b.count))) (b.each k a l below)
        | inr above ↦
            let last : k ≡ n = omega arith in
            let meter-at = field_at (λ a. a.meter) plan.accounts n meter a inside meter-is in
            let other-at = field_at (λ a. a.other) plan.accounts n other a inside other-is in
            rw (last, get_or_push lanes new l n b.count, meter-at, other-at) refl
      ];
      empty = all_push (λ l. (l.rows ≡ []) × (l.changed ≡ None)) lanes new b.empty (refl, refl);
    }

-- lanes that are resumed keep their rows
pub resumed_steps : (lanes : List (LaneView TermedMeter)) → most_steps lanes ≤ all_steps (map lane_resumed lanes)
resumed_steps [] = omega arith
resumed_steps (l ∷ lanes) =
    omega (arith, resumed_steps lanes, one_lane l.changed, sum_by-cons (λ (x : LaneView TermedMeter). steps_of x x.changed) l lanes, sum_by-cons (λ (x : LaneView TermedMeter). length x.rows + x.k) (lane_resumed l) (map lane_resumed lanes))
  where
    one_lane : (o : Option ℕ) → steps_of l o ≤ length l.rows + l.k
    one_lane None = omega arith
    one_lane (Some p) = omega arith
