-- What workers answered of each input, and what all inputs hold together.
use Rattle.std.proofs.Common.{◌≡◌, ◌≢◌, ◌∙◌, ◌<◌, ◌+◌, ℕ, List, [], ◌∷◌, ◌++◌, length, get_or, map, take, Some, None, Ok, Err, is_ok, refl, sym, ap, subst, append_assoc, arith, take_all, inl, inr}
use Rattle.std.specs.Prelude.{IsOk, option_map, slice_get}
use Rattle.std.specs.List.{AllByRecursion}
use Rattle.std.proofs.lemmas.List.{append-nil, take_more, take-map}
use Rattle.std.proofs.lemmas.Option.{slice_get-map, slice_get_read}
use Rattle.tca_report.specs.report.Reports.{PacketReport}
use Rattle.tca_report.specs.input.Inputs.{InputView, read_input}
use Rattle.tca_report.specs.input.Wants.{WantsMemory}
use Rattle.tca_report.specs.declared.input.InputFault.{InputFault}
use Rattle.tca_report.specs.declared.input.InputFault.TheVariants.{Memory}
use Rattle.tca_report.specs.declared.input.Notes.{Notes}
use Rattle.tca_ingest.specs.Entries.{Took}
use Rattle.tca_ingest.specs.Shares.{IsTake}
use Rattle.tca_ingest.specs.EntryViews.{entry_view}
use Rattle.tca_ingest.specs.declared.entry.Receipt.{Receipt}
use Rattle.tca_ingest.specs.Works.{IsResult, contents_of}
use Rattle.tca_program.specs.declared.fault.RunFault.{RunFault}
use Rattle.tca_program.specs.Noted.{AreNotes, IsNoted}
use Rattle.tca_commands.specs.Replicated.{AreReplicasRefused, AreSound, IsInputFault, IsOwnFault}
use Rattle.tca_program.specs.Unions.{HoldsReports, HoldReports, input_refusal}
use Rattle.tca_program.proofs.InputLaws.{gathered_err, gathered_ok}

-- a take that didn't stop lists all reports that it was given
pub all_taken : (reports list : List PacketReport) (number pass fresh : ℕ) → IsTake reports number (Took pass list fresh None) → list ≡ reports
all_taken reports list number pass fresh t =
    let stopped : t.stop ≡ None = cc (sym t.entry) in
    let some : list ≡ take t.taken reports = cc t.entry in
    some ∙ ap (λ n. take n reports) (t.whole.0 stopped) ∙ take_all (length reports) reports (omega (arith))

-- what an input holds, where its reports and notes were given
pub holds_of : (input : InputView) (rs : List PacketReport) (notes : Notes) → contents_of input ≡ Ok (rs, notes) → HoldsReports input rs
holds_of input rs notes is = let h = gathered_ok (read_input input) (rs, notes) is in record { so_far = h.0; read = h.1; reports = h.2 }

pub noted_of : (input : InputView) (rs : List PacketReport) (notes : Notes) → contents_of input ≡ Ok (rs, notes) → IsNoted input notes
noted_of input rs notes is = let h = gathered_ok (read_input input) (rs, notes) is in record { so_far = h.0; read = h.1; notes_are = h.3 }

pub read_of : (input : InputView) (rs : List PacketReport) (notes : Notes) → contents_of input ≡ Ok (rs, notes) → IsOk (read_input input)
read_of input rs notes is = ap is_ok (gathered_ok (read_input input) (rs, notes) is).1

pub sound_of : (input : InputView) (notes : Notes) → IsNoted input notes → IsOk (read_input input)
sound_of input notes is = ap is_ok is.read

-- what an input holds is what its take lists, where that didn't stop
pub holds_if_taken : (input : InputView) (notes : Notes) (receipt : Receipt) (pass fresh : ℕ) (list : List PacketReport) → IsResult input (Ok (notes, receipt)) → entry_view receipt.entry ≡ Took pass list fresh None → HoldsReports input list
holds_if_taken input notes receipt pass fresh list is says =
    let same : list ≡ is.0 = all_taken is.0 list is.2.0 pass fresh (subst (IsTake is.0 is.2.0) says is.2.1) in
    subst (HoldsReports input) (sym same) (holds_of input is.0 notes is.1)

pub noted_if_taken : (input : InputView) (notes : Notes) (receipt : Receipt) → IsResult input (Ok (notes, receipt)) → IsNoted input notes
noted_if_taken input notes receipt is = noted_of input is.0 notes is.1

-- the fault of an input that wasn't gathered
pub own_fault : (n : ℕ) (input : InputView) (fault : InputFault) (e : RunFault) → e ≡ input_refusal n fault → (fault ≢ Memory → contents_of input ≡ Err fault) × (fault ≡ Memory → WantsMemory input) → IsOwnFault n input e
own_fault n input fault e is given = (fault, is, (λ other. gathered_err (read_input input) fault (given.0 other)), given.1)

-- reports of what is left complete those so far
abbrev pub HoldCompleted : List InputView → List InputView → List (List PacketReport) → Type 0
HoldCompleted inputs rest so_far = (more : List (List PacketReport)) → HoldReports rest more → HoldReports inputs (so_far ++ more)

pub one_held : (inputs rest : List InputView) (input : InputView) (so_far : List (List PacketReport)) (rs : List PacketReport) → HoldsReports input rs → HoldCompleted inputs (input ∷ rest) so_far
    → HoldCompleted inputs rest (so_far ++ (rs ∷ []))
unfolding HoldReports
one_held inputs rest input so_far rs is done more rest_hold = subst (HoldReports inputs) (sym (append_assoc so_far (rs ∷ []) more)) (done (rs ∷ more) (is, rest_hold))

pub all_held : (inputs : List InputView) (so_far : List (List PacketReport)) → HoldCompleted inputs [] so_far → HoldReports inputs so_far
unfolding HoldReports
all_held inputs so_far done = subst (HoldReports inputs) (append-nil so_far) (done [] tt)

all_push : {A : Type 0} (P : A → Type 0) (xs : List A) (x : A) → AllByRecursion P xs → P x → AllByRecursion P (xs ++ x ∷ [])
all_push P [] x all here = (here, tt)
all_push P (y ∷ xs) x all here = (all.0, all_push P xs x all.1 here)

all_more : {A : Type 0} (P : A → Type 0) (xs : List A) (i : ℕ) (d : A) → i < length xs → AllByRecursion P (take i xs) → P (get_or xs i d) → AllByRecursion P (take (i + 1) xs)
all_more P xs i d low all here = subst (AllByRecursion P) (sym (take_more xs i d low)) (all_push P (take i xs) (get_or xs i d) all here)

-- what is found at a place
pub found_at : {X : Type 0} (f : X → InputView) (inputs : List X) (n : ℕ) (input : X) → n < length inputs → input ≡ get_or inputs n input → slice_get (map f inputs) n ≡ Some (f input)
found_at f inputs n input low is = slice_get-map f inputs n ∙ ap (option_map f) (slice_get_read inputs (length inputs) n input refl low is)

-- inputs that have notes have no fault
pub all_sound : (inputs : List InputView) (notes : List Notes) → AreNotes inputs notes → AreSound inputs
unfolding AreNotes
all_sound [] [] are = tt
all_sound [] (n ∷ ns) are = absurd are
all_sound (i ∷ is) [] are = absurd are
all_sound (i ∷ is) (n ∷ ns) are = (sound_of i n are.0, all_sound is ns are.1)

-- one input more without a fault
pub one_sound : {X : Type 0} (f : X → InputView) (inputs : List X) (n : ℕ) (input : X) → n < length inputs → input ≡ get_or inputs n input → AreSound (take n (map f inputs)) → IsOk (read_input (f input)) → AreSound (take (n + 1) (map f inputs))
one_sound f inputs n input low is before here =
    subst AreSound (sym (take-map f (n + 1) inputs)) (sound_take f (n + 1) inputs (all_more (λ x. IsOk (read_input (f x))) inputs n input low (take_sound f n inputs (subst AreSound (take-map f n inputs) before)) (subst (λ x. IsOk (read_input (f x))) is here)))
  where
    sound_map : {X : Type 0} (f : X → InputView) (xs : List X) → AllByRecursion (λ x. IsOk (read_input (f x))) xs → AreSound (map f xs)
    sound_map f [] all = tt
    sound_map f (x ∷ xs) all = (all.0, sound_map f xs all.1)

    map_sound : {X : Type 0} (f : X → InputView) (xs : List X) → AreSound (map f xs) → AllByRecursion (λ x. IsOk (read_input (f x))) xs
    map_sound f [] all = tt
    map_sound f (x ∷ xs) all = (all.0, map_sound f xs all.1)

    sound_take : {X : Type 0} (f : X → InputView) (n : ℕ) (xs : List X) → AllByRecursion (λ x. IsOk (read_input (f x))) (take n xs) → AreSound (map f (take n xs))
    sound_take f n xs all = sound_map f (take n xs) all

    take_sound : {X : Type 0} (f : X → InputView) (n : ℕ) (xs : List X) → AreSound (map f (take n xs)) → AllByRecursion (λ x. IsOk (read_input (f x))) (take n xs)
    take_sound f n xs all = map_sound f (take n xs) all

-- the refusal of an input
pub refused_at : {X : Type 0} (f : X → InputView) (inputs : List X) (n : ℕ) (input : X) (e : RunFault) → n < length inputs → input ≡ get_or inputs n input → AreSound (take n (map f inputs)) → IsInputFault n (f input) e → AreReplicasRefused (map f inputs) e
refused_at f inputs n input e low is before why = inr (inl (record { place = n; input = f input; here = found_at f inputs n input low is; before = before; why = why }))
