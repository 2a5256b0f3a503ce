-- What the command `add` writes, and what it is refused for.
use Rattle.std.specs.Prelude.{◌≡◌, ◌⊎◌, ℕ, List, [], map, take, slice_get, Some}
use Rattle.std.specs.Global.{Vec}
use Rattle.tca_figures.specs.Figures.{Stated}
use Rattle.tca_figures.specs.Lines.{IsTextOf, statement_octets}
use Rattle.tca_figures.specs.Reading.{IsFirstFault}
use Rattle.tca_figures.specs.Sums.{IsSumFault}
use Rattle.tca_figures.specs.Totals.{IsSumOf}
use Rattle.tca_figures.specs.declared.fault.StatementFault.{StatementFault}
use Rattle.tca_program.specs.Devices.{Device, IsCutOff, Receives}
use Rattle.tca_program.specs.Outcomes.{IsCommandRefused}
use Rattle.tca_program.specs.Unions.{memory_refusal}
use Rattle.tca_program.specs.declared.fault.RunFault.{RunFault}
use Rattle.tcatool.specs.Told.{statement_refusal}

-- the octets of each of these
abbrev pub texts_of : List (Vec ℕ) → List (List ℕ)
texts_of all = map (λ v. v.items) all

-- the statement of a text has no sum with those before it
pub record HasNoSum (before : List (List ℕ)) (text : List ℕ) (fault : StatementFault) : Type 0 where
  pub sum : Stated
  pub sum_is : IsSumOf before sum
  pub more : Stated
  pub text_is : IsTextOf text more
  pub unfit : IsSumFault sum more fault

-- a text is no statement, and those before it, if there are any, have a sum
pub record IsNoStatement (before : List (List ℕ)) (text : List ℕ) (fault : StatementFault) : Type 0 where
  pub fits : (before ≡ []) ⊎ ((sum : Stated) × IsSumOf before sum)
  pub faulty : IsFirstFault text fault

-- The first of the texts that is no statement, or has no sum with those before it, with its fault.
pub record IsFirstUnfit (texts : List (List ℕ)) (e : RunFault) : Type 0 where
  pub number : ℕ
  pub text : List ℕ
  pub at : slice_get texts number ≡ Some text
  pub fault : StatementFault
  pub told : e ≡ statement_refusal number fault
  pub why : IsNoStatement (take number texts) text fault ⊎ HasNoSum (take number texts) text fault

-- Each text is a statement, they have a sum, and it was written.
pub record IsAddDone (texts : List (List ℕ)) (old new : Device) : Type 0 where
  pub sum : Stated
  pub sum_is : IsSumOf texts sum
  pub written : Receives (statement_octets sum) old new

-- Want of memory for the text of a sum.
pub record IsSumUnwritten (texts : List (List ℕ)) (e : RunFault) : Type 0 where
  pub fault : e ≡ memory_refusal
  pub sum : Stated
  pub sum_is : IsSumOf texts sum

-- Of the sum only a part went out.
pub record IsAddCutOff (texts : List (List ℕ)) (old new : Device) : Type 0 where
  pub sum : Stated
  pub sum_is : IsSumOf texts sum
  pub part : IsCutOff (statement_octets sum) old new

-- why there is no sum to write
abbrev pub IsSumRefused : List (List ℕ) → RunFault → Type 0
IsSumRefused texts e = IsFirstUnfit texts e ⊎ IsSumUnwritten texts e

-- what a refusal is, and what it leaves of the device
abbrev pub IsAddRefused : List (List ℕ) → Device → Device → RunFault → Type 0
IsAddRefused texts = IsCommandRefused (IsSumRefused texts) (IsAddCutOff texts)
