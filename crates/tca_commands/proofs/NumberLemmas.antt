-- A number of the command line: what the typed getter reads, kept within its bounds.
use Rattle.std.proofs.Common.{◌≡◌, ◌∙◌, ◌<◌, ◌≤◌, ◌^◌, ◌&&◌, ℕ, Bool, cond, true, false, nat_le, Option, Some, None, Result, Ok, Err, refl, sym, ap, arith, le-leb, true≢false}
use Rattle.std.specs.Prelude.{option_and_then}
use Rattle.std.specs.Str.Parse.{ParsesUnsigned, digits_value, without_leading_plus}
use Rattle.clap.specs.Words.{Text, ReadsOne}
use Rattle.clap.specs.ValueTests.{is_unsigned_in}
use Rattle.clap.specs.Values.{IsUnsignedIn}
use Rattle.clap.specs.declared.builder.value_parser.ValueParser.TheVariants as vp
use Rattle.clap.proofs.ValueTestLemmas.{Accepts-accepts, accepts-Accepts}
use Rattle.tca_commands.specs.Lines.{number_in}

abbrev pub kept : ℕ → Option ℕ → Option ℕ
kept most = option_and_then (λ n. cond (nat_le 1 n && nat_le n most) (Some n) None)

pub kept_within : (most n : ℕ) → 1 ≤ n → n ≤ most → kept most (Some n) ≡ Some n
kept_within most n a b = rw (le-leb 1 n a, le-leb n most b) refl

within_test : (most n : ℕ) → (nat_le 1 n && nat_le n most) ≡ true → (1 ≤ n) × (n ≤ most)
within_test most n e = grind (arith)

pub kept_outside : (most n : ℕ) → ((1 ≤ n) × (n ≤ most) → ⊥) → kept most (Some n) ≡ None
kept_outside most n out = go (nat_le 1 n && nat_le n most) refl
  where
    go : (b : Bool) → (nat_le 1 n && nat_le n most) ≡ b → cond (nat_le 1 n && nat_le n most) (Some n) None ≡ None
    go true e = absurd (out (within_test most n e))
    go false e = rw e refl

is_in : (t : Text) (most : ℕ) → is_unsigned_in 1 most t ≡ true → IsUnsignedIn 1 most t
is_in t most e = accepts-Accepts false (vp.Unsigned 1 most) t e

tests_in : (t : Text) (most : ℕ) → IsUnsignedIn 1 most t → is_unsigned_in 1 most t ≡ true
tests_in t most h = Accepts-accepts false (vp.Unsigned 1 most) t h

pub read_ok : (E : Type 0) (t : Text) (most n : ℕ) → ParsesUnsigned {E = E} 32 10 t (Ok n) → kept most (Some n) ≡ number_in most t
read_ok E t most n h = go (is_unsigned_in 1 most t) refl
  where
    go : (b : Bool) → is_unsigned_in 1 most t ≡ b → kept most (Some n) ≡ cond (is_unsigned_in 1 most t) (Some (digits_value 10 (without_leading_plus t))) None
    go true e =
        let i = is_in t most e in
        kept_within most n (omega (arith, i.2, h.1)) (omega (arith, i.3, h.1)) ∙ ap Some h.1 ∙ rw e refl
    go false e =
        kept_outside most n (λ p. true≢false (sym (tests_in t most (h.0.0, omega (arith, h.0.1), omega (arith, p.0, h.1), omega (arith, p.1, h.1))) ∙ e))
        ∙ rw e refl

pub read_err : (E : Type 0) (t : Text) (most : ℕ) → most < 2 ^ 32 → (x : E) → ParsesUnsigned {E = E} 32 10 t (Err x) → None ≡ number_in most t
read_err E t most small x h = go (is_unsigned_in 1 most t) refl
  where
    go : (b : Bool) → is_unsigned_in 1 most t ≡ b → None ≡ cond (is_unsigned_in 1 most t) (Some (digits_value 10 (without_leading_plus t))) None
    go true e = let i = is_in t most e in absurd (h (i.0, omega (arith, i.3, small)))
    go false e = rw e refl

-- what `get_one` reads, within the bounds, is the number of the text that is there
pub number_is : (E : Type 0) (G : Text → Result ℕ E → Type 0) (parses : (t : Text) (x : Result ℕ E) → G t x → ParsesUnsigned 32 10 t x)
    (most : ℕ) (small : most < 2 ^ 32) (o : Option Text) (r : Option ℕ) → (o ≡ None → r ≡ None)
    → ((t : Text) → o ≡ Some t → ReadsOne G t r) → kept most r ≡ option_and_then (number_in most) o
number_is E G parses most small None r none some = ap (kept most) (none refl)
number_is E G parses most small (Some t) (Some n) none some = read_ok E t most n (parses t (Ok n) (some t refl))
number_is E G parses most small (Some t) None none some =
    let given = some t refl in
    read_err E t most small given.0 (parses t (Err given.0) given.1)
