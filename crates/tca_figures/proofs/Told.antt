-- Which fault is told.
use Rattle.std.proofs.Common.{◌≡◌, ◌+◌, ◌-◌, ◌++◌, ◌∷◌, [], ℕ, List, length, take, arith, subst, sym, ap, refl, ◌∙◌}
use Rattle.std.proofs.lemmas.List.{append_cancel_left, take_all}
use Rattle.std.proofs.lemmas.Option.{slice_get_within}
use Rattle.tca_figures.specs.inside.Progress.{Follow, Follows, IsKept, IsSound, IsWrongSum, Progress, unread}
use Rattle.tca_figures.specs.Reading.{line_number, parts, whole_lines}
use Rattle.tca_figures.specs.inside.Refusals.{IsRefused, IsWhole, fault_at}
use Rattle.tca_figures.specs.declared.fault.StatementFault.TheVariants as faults
use Rattle.tca_figures.specs.declared.reader.Refusal.{Refusal}
use Rattle.tca_figures.specs.declared.reader.Refusal.TheVariants as refusals
use Rattle.tca_figures.specs.declared.reader.Stage.TheVariants as stages
use Rattle.tca_figures.proofs.Cuts.{all_lines, front_lines, same_line}

-- of a refusal that is neither, want of memory is told
pub only_memory : (refusal : Refusal) (before spans : ℕ) → (refusal ≡ refusals.Line → ⊥) → (refusal ≡ refusals.Sum → ⊥) → fault_at refusal before spans ≡ faults.Memory
only_memory refusals.Line before spans line sum = absurd (line refl)
only_memory refusals.Sum before spans line sum = absurd (sum refl)
only_memory refusals.Memory before spans line sum = refl

-- the fault of a line that is refused
pub told : (octets : List ℕ) (lines : List (List ℕ)) (line behind : List ℕ) (reader : Progress) (refusal : Refusal) (spans : ℕ)
    → parts octets ≡ lines ++ (line ∷ parts behind) → Follow unread lines reader → IsSound reader
    → ((q : Progress) → Follows reader line q → refusal ≡ refusals.Line → ⊥) → (refusal ≡ refusals.Sum → IsWrongSum reader line)
    → (refusal ≡ refusals.Sum → spans ≡ length reader.account.spans) → (refusal ≡ refusals.Memory → IsKept reader line)
    → IsRefused octets (fault_at refusal (length lines) spans)
told octets lines line behind reader refusals.Line spans e follow sound only sum count memory =
    let front = front_lines octets lines line behind e in
    record {
      before = length lines;
      number = refl;
      within = omega (arith, front.2);
      progress = reader;
      follow = subst (λ z. Follow unread z reader) (sym front.0) follow;
      sound = sound;
      next = λ text is q h. only q (subst (λ z. Follows reader z q) (same_line text line (sym is ∙ front.1)) h) refl;
      early = λ is whole. omega (arith, is, front.2);
    }
told octets lines line behind reader refusals.Sum spans e follow sound only sum count memory =
    let front = front_lines octets lines line behind e in
    record {
      before = length lines;
      progress = reader;
      number = ap (λ n. line_number (length lines - (n + 1))) (count refl);
      follow = subst (λ z. Follow unread z reader) (sym front.0) follow;
      sound = sound;
      next = line;
      next_is = front.1;
      wrong = sum refl;
    }
told octets lines line behind reader refusals.Memory spans e follow sound only sum count memory =
    let front = front_lines octets lines line behind e in
    record {
      before = length lines;
      progress = reader;
      follow = subst (λ z. Follow unread z reader) (sym front.0) follow;
      sound = sound;
      next = line;
      next_is = front.1;
      kept = memory refl;
    }

first_of_one : (a b : List ℕ) → a ∷ [] ≡ b ∷ [] → a ≡ b
first_of_one a b e = cc

-- nothing stands behind the last line feed
pub nothing_left : (octets : List ℕ) (lines : List (List ℕ)) (rest : List ℕ) (p : Progress) → parts octets ≡ lines ++ (rest ∷ []) → IsWhole octets p → rest ≡ []
nothing_left octets lines rest p e w =
    first_of_one rest [] (append_cancel_left lines (rest ∷ []) ([] ∷ []) (sym e ∙ (w.1 ∙ ap (λ z. z ++ [] ∷ []) (all_lines octets lines rest e))))

-- the fault of octets that end too early, or go on behind the last line
pub told_early : (octets : List ℕ) (lines : List (List ℕ)) (rest : List ℕ) (reader : Progress) → parts octets ≡ lines ++ (rest ∷ [])
    → Follow unread lines reader → IsSound reader → (reader.stage ≡ stages.Ended → rest ≡ [] → ⊥) → IsRefused octets (fault_at refusals.Line (length lines) 0)
told_early octets lines rest reader e follow sound cut =
    let whole = all_lines octets lines rest e in
    record {
      before = length lines;
      number = refl;
      within = rw whole (omega arith);
      progress = reader;
      follow = subst (λ z. Follow unread z reader) (sym (ap (take (length lines)) whole ∙ take_all (length lines) lines (omega arith))) follow;
      sound = sound;
      next = λ text is q h. omega (arith, slice_get_within (whole_lines octets) (length lines) text is, ap length whole);
      early = λ is w. cut w.0 (nothing_left octets lines rest reader e w);
    }
