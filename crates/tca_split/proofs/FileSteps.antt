-- What becomes of a domain's file in several steps.
use Rattle.std.proofs.Common.{◌≡◌, ℕ, ◌+◌, List, [], ◌++◌, Option, Some, None, take, drop, take-add, refl, sym, ap, ◌∙◌, append_assoc, append-nil}
use Rattle.std.specs.Prelude.{option_map}
use Rattle.tca_split.specs.Folders.{Files, Lengthens}
use Rattle.tca_split.specs.inside.Buffering.{Leaves, Starts}

pub longer : (a b : List ℕ) (o : Option (List ℕ)) → option_map (λ xs. xs ++ b) (option_map (λ xs. xs ++ a) o) ≡ option_map (λ xs. xs ++ (a ++ b)) o
longer a b None = refl
longer a b (Some xs) = ap (λ (l : List ℕ). Some l) (append_assoc xs a b)

pub same_length : (o : Option (List ℕ)) → o ≡ option_map (λ xs. xs ++ []) o
same_length None = refl
same_length (Some xs) = ap (λ (l : List ℕ). Some l) (sym (append-nil xs))

pub lengthens_none : (d : ℕ) (x : Option Files) → Lengthens d [] x x
lengthens_none d None = tt
lengthens_none d (Some fs) = (same_length (fs d), λ e ne. refl)

pub lengthens_same : (d : ℕ) (x y : Option Files) → y ≡ x → Lengthens d [] x y
lengthens_same d x y e = go x y e
  where
    go : (x y : Option Files) → y ≡ x → Lengthens d [] x y
    go None y e = tt
    go (Some fs) None e = absurd cc
    go (Some fs) (Some gs) e =
        let is : gs ≡ fs = cc in
        (ap (λ (h : Files). h d) is ∙ same_length (fs d), λ o ne. ap (λ (h : Files). h o) is)

pub lengthens_more : (d : ℕ) (a b : List ℕ) (x y z : Option Files) → Lengthens d a x y → Lengthens d b y z → Lengthens d (a ++ b) x z
lengthens_more d a b None y z h k = tt
lengthens_more d a b (Some fs) None z h k = absurd h
lengthens_more d a b (Some fs) (Some gs) None h k = absurd k
lengthens_more d a b (Some fs) (Some gs) (Some hs) h k =
    (k.0 ∙ ap (option_map (λ xs. xs ++ b)) h.0 ∙ longer a b (fs d), λ e ne. k.1 e ne ∙ h.1 e ne)

pub lengthens_next : (d : ℕ) (x y z : Option Files) (octets : List ℕ) (i n : ℕ) → Lengthens d (take i octets) x y → Lengthens d (take n (drop i octets)) y z → Lengthens d (take (i + n) octets) x z
lengthens_next d x y z octets i n h k = rw (take-add i n octets) (lengthens_more d (take i octets) (take n (drop i octets)) x y z h k)

-- the front of octets with others behind them
pub starts_longer : (d : ℕ) (a b : List ℕ) (x y : Option Files) → Starts d a x y → Starts d (a ++ b) x y
starts_longer d a b x y s = record { front = s.front; rest = s.rest ++ b; parts = ap (λ (l : List ℕ). l ++ b) s.parts ∙ append_assoc s.front s.rest b; grown = s.grown }

-- what was left is not written yet, nor is what comes behind it
pub starts_left : (d : ℕ) (a left b : List ℕ) (x y : Option Files) → Leaves d a left x y → Starts d (a ++ b) x y
starts_left d a left b x y s =
    record { front = s.written; rest = left ++ b; parts = ap (λ (l : List ℕ). l ++ b) s.parts ∙ append_assoc s.written left b; grown = s.grown }

whole : (a written left b : List ℕ) → a ≡ written ++ left → left ≡ [] → a ++ b ≡ written ++ b
whole a written left b parts none = ap (λ (l : List ℕ). l ++ b) (parts ∙ ap (λ (l : List ℕ). written ++ l) none ∙ append-nil written)

-- nothing was left, and more was written behind it
pub leaves_more : (d : ℕ) (a left b : List ℕ) (x y z : Option Files) → Leaves d a left x y → left ≡ [] → Lengthens d b y z → Leaves d (a ++ b) left x z
leaves_more d a left b x y z s none k = record {
  written = s.written ++ b;
  parts = whole a s.written left b s.parts none ∙ sym (ap (λ (l : List ℕ). (s.written ++ b) ++ l) none ∙ append-nil (s.written ++ b));
  grown = lengthens_more d s.written b x y z s.grown k;
}

-- or was written in part
pub starts_more : (d : ℕ) (a left b : List ℕ) (x y z : Option Files) → Leaves d a left x y → left ≡ [] → Starts d b y z → Starts d (a ++ b) x z
starts_more d a left b x y z s none t = record {
  front = s.written ++ t.front;
  rest = t.rest;
  parts = whole a s.written left b s.parts none ∙ ap (λ (l : List ℕ). s.written ++ l) t.parts ∙ sym (append_assoc s.written t.front t.rest);
  grown = lengthens_more d s.written t.front x y z s.grown t.grown;
}
