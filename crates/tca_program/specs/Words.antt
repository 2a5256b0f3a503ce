-- The word of an input: a path, or a session and a path.
use Rattle.std.specs.Prelude.{◌≡◌, ◌⊎◌, ℕ, ◌<◌, Bool, ◌&&◌, nat_le, nat_lt, List, ◌∷◌, ◌++◌, length, Option, Some, None, map, if◌then◌else◌}
use Rattle.std.specs.List.{AllZip, list_all}
use Rattle.std.specs.Borrow.{Bor}
use Rattle.std.specs.Char.{is_ascii_digit}
use Rattle.std.specs.Str.Parse.{digits_value}
use Rattle.tca_report.specs.declared.input.Input.{Input}
use Rattle.tca_program.specs.declared.word.Asked.{Asked}

-- words that lie in memory, as texts
abbrev pub texts : List (Bor (List ℕ)) → List (List ℕ)
texts = map (λ s. s.now)

-- 1 to 10 decimal digits
abbrev pub is_session : List ℕ → Bool
is_session text = nat_le 1 (length text) && (nat_le (length text) 10 && list_all is_ascii_digit text)

-- their number, where it has 32 bits
abbrev pub session_in : List ℕ → Option ℕ
session_in text = if is_session text && nat_lt (digits_value 10 text) 4294967296 then Some (digits_value 10 text) else None

-- N@PATH: the number of a session, an at sign, and a path that isn't empty
pub record IsNumbered (word : List ℕ) (session : ℕ) (path : List ℕ) : Type 0 where
  pub digits : List ℕ
  pub whole : word ≡ digits ++ (64 ∷ path)
  pub number : session_in digits ≡ Some session
  pub some : 0 < length path

-- Any other word is a path of session 0.
abbrev pub IsSplit : List ℕ → ℕ → List ℕ → Type 0
IsSplit word session path = IsNumbered word session path ⊎ (((n : ℕ) (other : List ℕ) → IsNumbered word n other → ⊥) × (session ≡ 0) × (path ≡ word))

-- Each word asks for the file at a path, as an input of a session.
abbrev pub AreAsked : List (List ℕ) → List Asked → Type 0
AreAsked words all = AllZip (λ word one. IsSplit word one.session one.path.now) words all

-- Each word's session is that of the input beside it.
abbrev pub HaveSessions : List (List ℕ) → List Input → Type 0
HaveSessions words inputs = AllZip (λ word input. (path : List ℕ) × IsSplit word input.session path) words inputs
