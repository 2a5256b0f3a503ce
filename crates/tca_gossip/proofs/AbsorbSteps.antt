-- Going through runs: the first fault, and what is new in them.
use Rattle.std.proofs.Common.{◌≡◌, ℕ, suc, zero, ◌+◌, ◌-◌, ◌<◌, ◌≤◌, ◌*◌, true, false, cond, ◌&&◌, nat_lt, ◌==◌, Option, None, Some, Err, List, [], ◌∷◌, ◌++◌, length, take, drop, get_or, slice_get, refl, sym, ap, ◌∙◌, subst, arith, add-one, append_assoc, length-append}
use Rattle.std.proofs.Math.Seq.{drop-cons}
use Rattle.std.proofs.Math.ListN.{drop_of_length-le}
use Rattle.std.proofs.lemmas.List.{append-nil, take_all}
use Rattle.std.proofs.lemmas.Bool.{eq-eqb, eqb-true, eqb-false, ltb-false}
use Rattle.std.specs.List.{AllByRecursion}
use Rattle.tca_report.specs.report.Reports.{PacketReport}
use Rattle.tca_join.specs.Maps.{Rises}
use Rattle.tca_join.proofs.Sets.{all_more}
use Rattle.tca_log.specs.declared.fault.LogFault.{LogFault}
use Rattle.tca_gossip.specs.Replicas.{ReplicaView, with_origin, of, appended, append_one, chain_of}
use Rattle.tca_join.specs.Chains.{differ_at}
use Rattle.tca_gossip.specs.Runs.{RunView, AreRuns, Fault, OwnAhead, Gap, forked, same_report, fault_of, first_fault, or_else, rests, rest_of, absorbed}
use Rattle.tca_gossip.specs.Answers.{outcome_of, fault_view, IsRefusal, IsStop, IsRefusedFor}
use Rattle.tca_gossip.specs.declared.fault.AbsorbFault.{AbsorbFault}
use Rattle.tca_gossip.specs.declared.fault.AbsorbFault.TheVariants.{Gap as gap, Forked as forked_at, OwnAhead as own_ahead, Stopped as stopped_at}
use Rattle.tca_gossip.proofs.Appends.{appended_more, appended_name, chain_appended, of_append, of_tagged, of_other}
use Rattle.tca_gossip.proofs.TakeSteps.{take_next}
use Rattle.tca_gossip.proofs.Worlds.{length_drop}

pub cut : {A : Type 0} (xs : List A) (i : ℕ) (x : A) → i < length xs → x ≡ get_or xs i x → drop i xs ≡ x ∷ drop (i + 1) xs
cut xs i x h is = drop-cons xs i x h ∙ rw (← add-one i) (ap (λ y. y ∷ drop (i + 1) xs) (sym is))

module _ (name : ℕ) (held : ℕ → List PacketReport) (runs : List RunView) (i : ℕ) (r : RunView) (h : i < length runs) (is : r ≡ get_or runs i r) where
  fault_cut : first_fault name held runs ≡ first_fault name held (drop i runs) → first_fault name held runs ≡ or_else (fault_of name held r) (first_fault name held (drop (i + 1) runs))
  unfolding first_fault
  fault_cut so_far = so_far ∙ ap (first_fault name held) (cut runs i r h is)

  pub fault_none : first_fault name held runs ≡ first_fault name held (drop i runs) → None ≡ fault_of name held r → first_fault name held runs ≡ first_fault name held (drop (i + 1) runs)
  fault_none so_far e = fault_cut so_far ∙ ap (λ o. or_else o (first_fault name held (drop (i + 1) runs))) (sym e)

  pub fault_some : (f : AbsorbFault) → IsRefusal f → first_fault name held runs ≡ first_fault name held (drop i runs) → fault_view (Some f) ≡ fault_of name held r → fault_view (Some f) ≡ first_fault name held runs
  fault_some (gap origin have from) ok so_far e = sym (fault_cut so_far ∙ ap (λ o. or_else o (first_fault name held (drop (i + 1) runs))) (sym e))
  fault_some (forked_at origin at) ok so_far e = sym (fault_cut so_far ∙ ap (λ o. or_else o (first_fault name held (drop (i + 1) runs))) (sym e))
  fault_some (own_ahead have said) ok so_far e = sym (fault_cut so_far ∙ ap (λ o. or_else o (first_fault name held (drop (i + 1) runs))) (sym e))
  fault_some (stopped_at taken cause) ok so_far e = absurd ok

  pub runs_step : AreRuns (drop i runs) → AreRuns (drop (i + 1) runs)
  runs_step a = (subst AreRuns (cut runs i r h is) a).2

pub fault_ends : (name : ℕ) (held : ℕ → List PacketReport) (runs : List RunView) (i : ℕ) → length runs ≤ i → first_fault name held runs ≡ first_fault name held (drop i runs) → None ≡ first_fault name held runs
unfolding first_fault
fault_ends name held runs i h so_far = sym (so_far ∙ ap (first_fault name held) (drop_of_length-le runs h))

one_of : (v : ReplicaView) (p : ℕ × PacketReport) → append_one v p ≡ appended v (p ∷ [])
unfolding appended
one_of v p = refl

-- reports of one origin
origin_append : (o : ℕ) (a b : List PacketReport) → with_origin o (a ++ b) ≡ with_origin o a ++ with_origin o b
unfolding with_origin
origin_append o [] b = refl
origin_append o (r ∷ a) b = ap (λ (l : List (ℕ × PacketReport)). (o, r) ∷ l) (origin_append o a b)

origin_one : (o : ℕ) (r : PacketReport) → with_origin o (r ∷ []) ≡ (o, r) ∷ []
unfolding with_origin
origin_one o r = refl

pub origin_length : (o : ℕ) (rs : List PacketReport) → length (with_origin o rs) ≡ length rs
unfolding with_origin
origin_length o [] = refl
origin_length o (r ∷ rs) = ap suc (origin_length o rs)

origin_take : (o n : ℕ) (rs : List PacketReport) → take n (with_origin o rs) ≡ with_origin o (take n rs)
unfolding with_origin
origin_take o zero rs = refl
origin_take o (suc n) [] = refl
origin_take o (suc n) (r ∷ rs) = ap (λ (l : List (ℕ × PacketReport)). (o, r) ∷ l) (origin_take o n rs)

origin_at : (P : PacketReport → Type 0) (o n : ℕ) (rs : List PacketReport) (r : PacketReport) → n < length rs → r ≡ get_or rs n r → P r → (p : ℕ × PacketReport) → slice_get (with_origin o rs) n ≡ Some p → P p.1
unfolding with_origin
origin_at P o n [] r h is holds p e = absurd (omega arith)
origin_at P o zero (x ∷ rs) r h is holds p e = let one : (o, x) ≡ p = cc in subst (λ (z : ℕ × PacketReport). P z.1) one (subst P is holds)
origin_at P o (suc n) (x ∷ rs) r h is holds p e = origin_at P o n rs r (omega arith) is holds p e

-- reports of one origin, one by one
module _ (old now : ReplicaView) (o : ℕ) (rs : List PacketReport) (i : ℕ) (so_far : now ≡ appended old (with_origin o (take i rs))) where
  pub report_state : (new : ReplicaView) (r : PacketReport) → i < length rs → r ≡ get_or rs i r → new ≡ append_one now (o, r) → new ≡ appended old (with_origin o (take (i + 1) rs))
  report_state new r h is e =
      e ∙ one_of now (o, r) ∙ ap (λ v. appended v ((o, r) ∷ [])) so_far ∙ sym (appended_more old (with_origin o (take i rs)) ((o, r) ∷ []))
      ∙ ap (appended old) (ap (λ l. with_origin o (take i rs) ++ l) (sym (origin_one o r)) ∙ sym (origin_append o (take i rs) (r ∷ [])) ∙ ap (with_origin o) (sym (take_next rs i r h is)))

  pub chain_room : Rises old.chains → i < length rs → length (chain_of old o) + length rs ≤ 4194304 → length (chain_of now o) < 4194304
  chain_room rises h few =
      let chain : chain_of now o ≡ chain_of old o ++ take i rs = ap (λ v. chain_of v o) so_far ∙ chain_appended old (with_origin o (take i rs)) o rises ∙ ap (λ (l : List PacketReport). chain_of old o ++ l) (of_tagged o (take i rs)) in
      small (length (chain_of now o)) (length (chain_of old o)) (length (take i rs)) i (length rs) (ap length chain ∙ length-append (chain_of old o) (take i rs)) (taken_few i rs) h few where
        small : (a b c i n : ℕ) → a ≡ b + c → c ≤ i → i < n → b + n ≤ 4194304 → a < 4194304
        small a b c i n p q s t = omega (arith, p, q, s, t)

        taken_few : (i : ℕ) (rs : List PacketReport) → length (take i rs) ≤ i
        taken_few zero rs = omega arith
        taken_few (suc i) [] = omega arith
        taken_few (suc i) (r ∷ rs) = omega (arith, taken_few i rs)

  pub report_stop : (new : ReplicaView) (r : PacketReport) (n : ℕ) (cause : LogFault) → i < length rs → r ≡ get_or rs i r → n ≡ i → new ≡ now → IsRefusedFor cause now.log r → IsStop old new (with_origin o rs) n cause
  report_stop new r n cause h is count same refused = (
    omega (arith, count, h, origin_length o rs),
    same ∙ so_far ∙ ap (appended old) (sym (origin_take o i rs)) ∙ ap (λ k. appended old (take k (with_origin o rs))) (sym count),
    λ p e. origin_at (λ z. IsRefusedFor cause new.log z) o i rs r h is (subst (λ v. IsRefusedFor cause v.log r) (sym same) refused) p (ap (slice_get (with_origin o rs)) (sym count) ∙ e),
  )

pub report_ends : (old now : ReplicaView) (o : ℕ) (rs : List PacketReport) (i : ℕ) → length rs ≤ i → now ≡ appended old (with_origin o (take i rs)) → now ≡ appended old (with_origin o rs)
report_ends old now o rs i h so_far = so_far ∙ ap (λ l. appended old (with_origin o l)) (take_all i rs h)

pub reports_start : (v : ReplicaView) (o : ℕ) → v ≡ appended v (with_origin o [])
unfolding with_origin appended
reports_start v o = refl

-- what runs have that were gone through
rests_append : (held : ℕ → List PacketReport) (a b : List RunView) → rests held (a ++ b) ≡ rests held a ++ rests held b
unfolding rests
rests_append held [] b = refl
rests_append held (r ∷ a) b = ap (λ l. with_origin r.origin (rest_of held r) ++ l) (rests_append held a b) ∙ sym (append_assoc (with_origin r.origin (rest_of held r)) (rests held a) (rests held b))

rests_one : (held : ℕ → List PacketReport) (r : RunView) → rests held (r ∷ []) ≡ with_origin r.origin (rest_of held r)
unfolding rests
rests_one held r = append-nil (with_origin r.origin (rest_of held r))

split_at : {A : Type 0} (i : ℕ) (xs : List A) → take i xs ++ drop i xs ≡ xs
split_at zero xs = refl
split_at (suc i) [] = refl
split_at (suc i) (x ∷ xs) = ap (λ l. x ∷ l) (split_at i xs)

-- a later run is of an origin that no run before it has
pub none_before : (held : ℕ → List PacketReport) (runs : List RunView) (i : ℕ) (r : RunView) → AreRuns runs → i < length runs → r ≡ get_or runs i r → of r.origin (rests held (take i runs)) ≡ []
unfolding rests of
none_before held [] i r are h is = absurd (omega arith)
none_before held (x ∷ runs) zero r are h is = refl
none_before held (x ∷ runs) (suc i) r are h is =
    of_append r.origin (with_origin x.origin (rest_of held x)) (rests held (take i runs))
    ∙ (λ j. of_other r.origin x.origin (rest_of held x) (λ same. omega (arith, above x.origin runs i r are.1 (omega arith) is, same)) j ++ none_before held runs i r are.2 (omega arith) is j) where
      above : (low : ℕ) (runs : List RunView) (i : ℕ) (r : RunView) → AllByRecursion (λ next. low < next.origin) runs → i < length runs → r ≡ get_or runs i r → low < r.origin
      above low [] i r h l is = absurd (omega arith)
      above low (x ∷ runs) zero r h l is = subst (λ (z : RunView). low < z.origin) (sym is) h.0
      above low (x ∷ runs) (suc i) r h l is = above low runs i r h.1 (omega arith) is

pub limit_at : (runs : List RunView) (i : ℕ) (r : RunView) → AreRuns runs → i < length runs → r ≡ get_or runs i r → r.start + length r.reports ≤ 4194304
limit_at [] i r are h is = absurd (omega arith)
limit_at (x ∷ runs) zero r are h is = subst (λ (z : RunView). z.start + length z.reports ≤ 4194304) (sym is) are.0
limit_at (x ∷ runs) (suc i) r are h is = limit_at runs i r are.2 (omega arith) is

or_none : (a b : Option Fault) → or_else a b ≡ None → (a ≡ None) × (b ≡ None)
or_none None b e = (refl, e)
or_none (Some f) b e = absurd cc

fault_at : (name : ℕ) (held : ℕ → List PacketReport) (runs : List RunView) (i : ℕ) (r : RunView) → first_fault name held runs ≡ None → i < length runs → r ≡ get_or runs i r → fault_of name held r ≡ None
unfolding first_fault
fault_at name held [] i r none h is = absurd (omega arith)
fault_at name held (x ∷ runs) zero r none h is = ap (fault_of name held) is ∙ (or_none (fault_of name held x) (first_fault name held runs) none).0
fault_at name held (x ∷ runs) (suc i) r none h is = fault_at name held runs i r (or_none (fault_of name held x) (first_fault name held runs) none).1 (omega arith) is

-- the first past a list, in the one after it
take_past : {A : Type 0} (a b d : List A) (n : ℕ) → n ≤ length b → take (length a + n) (a ++ (b ++ d)) ≡ a ++ take n b
take_past [] b d n h = ap (λ k. take k (b ++ d)) (zero_plus n) ∙ take_inner n b d h where
  zero_plus : (n : ℕ) → 0 + n ≡ n
  zero_plus n = omega arith

  take_inner : {A : Type 0} (n : ℕ) (xs ys : List A) → n ≤ length xs → take n (xs ++ ys) ≡ take n xs
  take_inner zero xs ys h = refl
  take_inner (suc n) [] ys h = absurd (omega arith)
  take_inner (suc n) (x ∷ xs) ys h = ap (λ l. x ∷ l) (take_inner n xs ys (omega arith))
take_past (x ∷ a) b d n h = ap (λ k. take k (x ∷ (a ++ (b ++ d)))) (more (length a) n) ∙ ap (λ l. x ∷ l) (take_past a b d n h) where
  more : (a n : ℕ) → suc a + n ≡ suc (a + n)
  more a n = omega arith

get_past : {A : Type 0} (a b d : List A) (n : ℕ) → n < length b → slice_get (a ++ (b ++ d)) (length a + n) ≡ slice_get b n
get_past [] b d n h = ap (slice_get (b ++ d)) (zero_plus n) ∙ get_inner n b d h where
  zero_plus : (n : ℕ) → 0 + n ≡ n
  zero_plus n = omega arith

  get_inner : {A : Type 0} (n : ℕ) (xs ys : List A) → n < length xs → slice_get (xs ++ ys) n ≡ slice_get xs n
  get_inner n [] ys h = absurd (omega arith)
  get_inner zero (x ∷ xs) ys h = refl
  get_inner (suc n) (x ∷ xs) ys h = get_inner n xs ys (omega arith)
get_past (x ∷ a) b d n h = ap (slice_get (x ∷ (a ++ (b ++ d)))) (more (length a) n) ∙ get_past a b d n h where
  more : (a n : ℕ) → suc a + n ≡ suc (a + n)
  more a n = omega arith

-- a run of the own name that isn't ahead has nothing past the own chain
own_nothing : (name : ℕ) (held : ℕ → List PacketReport) (r : RunView) → fault_of name held r ≡ None → r.origin ≡ name → rest_of held r ≡ []
own_nothing name held r none own =
    elim (nat_lt (length (held r.origin)) (r.start + length r.reports)) as (λ b. nat_lt (length (held r.origin)) (r.start + length r.reports) ≡ b → cond ((r.origin == name) && b) (Some (OwnAhead (length (held r.origin)) (r.start + length r.reports))) (cond (nat_lt (length (held r.origin)) r.start) (Some (Gap r.origin (length (held r.origin)) r.start)) (forked r.origin r.start (differ_at same_report (drop r.start (held r.origin)) r.reports))) ≡ None → rest_of held r ≡ []) [
      | true ↦ λ ahead e. let no : Some (OwnAhead (length (held r.origin)) (r.start + length r.reports)) ≡ None = rw (eq-eqb r.origin name own) at e in absurd cc
      | false ↦ λ within e. drop_of_length-le r.reports (omega (arith, ltb-false (length (held r.origin)) (r.start + length r.reports) within))
    ] refl none

-- a run at its turn: where no run has a fault, its chain is as it was, nothing of it is of the own name, and there is room for it
module _ (old now : ReplicaView) (runs : List RunView) (i : ℕ) (r : RunView) (h : i < length runs) (is : r ≡ get_or runs i r) (are : AreRuns runs) (rises : Rises old.chains) (so_far : now ≡ appended old (rests (chain_of old) (take i runs))) where
  chain_stays : chain_of now r.origin ≡ chain_of old r.origin
  chain_stays =
      ap (λ v. chain_of v r.origin) so_far ∙ chain_appended old (rests (chain_of old) (take i runs)) r.origin rises
      ∙ ap (λ (l : List PacketReport). chain_of old r.origin ++ l) (none_before (chain_of old) runs i r are h is) ∙ append-nil (chain_of old r.origin)

  pub rest_same : rest_of (chain_of now) r ≡ rest_of (chain_of old) r
  rest_same = ap (λ (l : List PacketReport). drop (length l - r.start) r.reports) chain_stays

  pub run_own : first_fault old.name (chain_of old) runs ≡ None → r.origin ≡ now.name → rest_of (chain_of now) r ≡ []
  run_own none own = rest_same ∙ own_nothing old.name (chain_of old) r (fault_at old.name (chain_of old) runs i r none h is) (own ∙ ap (λ v. v.name) so_far ∙ appended_name old (rests (chain_of old) (take i runs)))

  pub run_room : length (chain_of now r.origin) ≤ 4194304 → length (chain_of now r.origin) + length (rest_of (chain_of now) r) ≤ 4194304
  run_room few = room (length (chain_of now r.origin)) r.start (length r.reports) (length (rest_of (chain_of now) r)) few (limit_at runs i r are h is) (length_drop (length (chain_of now r.origin) - r.start) r.reports) where
    room : (n b a c : ℕ) → n ≤ 4194304 → b + a ≤ 4194304 → c ≡ a - (n - b) → n + c ≤ 4194304
    room n b a c p q e = omega (arith, p, q, e)

  cut_here : rests (chain_of old) (take (i + 1) runs) ≡ rests (chain_of old) (take i runs) ++ with_origin r.origin (rest_of (chain_of old) r)
  cut_here = ap (rests (chain_of old)) (take_next runs i r h is) ∙ rests_append (chain_of old) (take i runs) (r ∷ []) ∙ ap (λ l. rests (chain_of old) (take i runs) ++ l) (rests_one (chain_of old) r)

  pub run_state : (new : ReplicaView) → new ≡ appended now (with_origin r.origin (rest_of (chain_of now) r)) → new ≡ appended old (rests (chain_of old) (take (i + 1) runs))
  run_state new e =
      e ∙ ap (λ l. appended now (with_origin r.origin l)) rest_same ∙ ap (λ v. appended v (with_origin r.origin (rest_of (chain_of old) r))) so_far
      ∙ sym (appended_more old (rests (chain_of old) (take i runs)) (with_origin r.origin (rest_of (chain_of old) r))) ∙ ap (appended old) (sym cut_here)

  pub run_count : (count n : ℕ) → count ≡ length (rests (chain_of old) (take i runs)) → n ≡ length (rest_of (chain_of now) r) → count + n ≡ length (rests (chain_of old) (take (i + 1) runs))
  run_count count n c e =
      sums count n (length (rests (chain_of old) (take i runs))) (length (with_origin r.origin (rest_of (chain_of old) r))) (length (rests (chain_of old) (take (i + 1) runs))) c
      (e ∙ ap length rest_same ∙ sym (origin_length r.origin (rest_of (chain_of old) r))) (ap length cut_here ∙ length-append (rests (chain_of old) (take i runs)) (with_origin r.origin (rest_of (chain_of old) r))) where
        sums : (a b c d e : ℕ) → a ≡ c → b ≡ d → e ≡ c + d → a + b ≡ e
        sums a b c d e p q s = omega (arith, p, q, s)

  whole : rests (chain_of old) runs ≡ rests (chain_of old) (take i runs) ++ (with_origin r.origin (rest_of (chain_of old) r) ++ rests (chain_of old) (drop (i + 1) runs))
  whole =
      ap (rests (chain_of old)) (sym (split_at i runs)) ∙ rests_append (chain_of old) (take i runs) (drop i runs)
      ∙ ap (λ l. rests (chain_of old) (take i runs) ++ l) (ap (rests (chain_of old)) (cut runs i r h is) ∙ rests_append (chain_of old) (r ∷ []) (drop (i + 1) runs) ∙ ap (λ l. l ++ rests (chain_of old) (drop (i + 1) runs)) (rests_one (chain_of old) r))

  pub run_stop : (new : ReplicaView) (count n : ℕ) (cause : LogFault) → count ≡ length (rests (chain_of old) (take i runs)) → IsStop now new (with_origin r.origin (rest_of (chain_of now) r)) n cause → IsStop old new (rests (chain_of old) runs) (count + n) cause
  run_stop new count n cause c stop =
      let a = rests (chain_of old) (take i runs) in
      let b = with_origin r.origin (rest_of (chain_of old) r) in
      let d = rests (chain_of old) (drop (i + 1) runs) in
      let stop2 : IsStop now new b n cause = subst (λ l. IsStop now new (with_origin r.origin l) n cause) rest_same stop in
      subst (λ l. IsStop old new l (count + n) cause) (sym whole) (
        omega (arith, c, stop2.0, length-append a (b ++ d), length-append b d),
        stop2.1 ∙ ap (λ v. appended v (take n b)) so_far ∙ sym (appended_more old a (take n b)) ∙ ap (appended old) (sym (take_past a b d n (omega (arith, stop2.0)) ∙ refl)) ∙ ap (λ k. appended old (take k (a ++ (b ++ d)))) (ap (λ m. m + n) (sym c)),
        λ p e. stop2.2 p (sym (get_past a b d n stop2.0) ∙ ap (λ m. slice_get (a ++ (b ++ d)) (m + n)) (sym c) ∙ e),
      )

-- since origins ascend, what runs have before one is bounded by its origin
rest_few : (held : ℕ → List PacketReport) (r : RunView) → r.start + length r.reports ≤ 4194304 → length (with_origin r.origin (rest_of held r)) ≤ 4194304
rest_few held r few = omega (arith, few, origin_length r.origin (rest_of held r), length_drop (length (held r.origin) - r.start) r.reports)

rests_below : (held : ℕ → List PacketReport) (low : ℕ) (runs : List RunView) (i : ℕ) (r : RunView) → AreRuns runs → AllByRecursion (λ next. low ≤ next.origin) runs → i < length runs → r ≡ get_or runs i r → length (rests held (take i runs)) + low * 4194304 ≤ r.origin * 4194304
unfolding rests
rests_below held low [] i r are above h is = absurd (omega arith)
rests_below held low (x ∷ runs) zero r are above h is = let first : low ≤ r.origin = subst (λ (z : RunView). low ≤ z.origin) (sym is) above.0 in omega (arith, first)
rests_below held low (x ∷ runs) (suc i) r are above h is =
    let later = rests_below held (x.origin + 1) runs i r are.2 (all_more (λ next. x.origin < next.origin) (λ next. x.origin + 1 ≤ next.origin) (λ next l. omega (arith, l)) runs are.1) (omega arith) is in
    omega (arith, later, above.0, rest_few held x are.0, length-append (with_origin x.origin (rest_of held x)) (rests held (take i runs)))

all_above_zero : (runs : List RunView) → AllByRecursion (λ next. 0 ≤ next.origin) runs
all_above_zero [] = tt
all_above_zero (r ∷ runs) = (omega arith, all_above_zero runs)

pub rests_bound : (held : ℕ → List PacketReport) (runs : List RunView) (i : ℕ) (r : RunView) → AreRuns runs → i < length runs → r ≡ get_or runs i r → length (rests held (take i runs)) ≤ r.origin * 4194304
rests_bound held runs i r are h is = omega (arith, rests_below held 0 runs i r are (all_above_zero runs) h is)

pub rest_bound : (runs : List RunView) (i : ℕ) (r : RunView) (held : ℕ → List PacketReport) → AreRuns runs → i < length runs → r ≡ get_or runs i r → length (rest_of held r) ≤ 4194304
rest_bound runs i r held are h is = omega (arith, limit_at runs i r are h is, length_drop (length (held r.origin) - r.start) r.reports)

pub rests_start : (held : ℕ → List PacketReport) (v : ReplicaView) → (v ≡ appended v (rests held [])) × (0 ≡ length (rests held []))
unfolding rests appended
rests_start held v = (refl, refl)

pub rests_end : (old now : ReplicaView) (runs : List RunView) (i : ℕ) → length runs ≤ i → now ≡ appended old (rests (chain_of old) (take i runs)) → now ≡ appended old (rests (chain_of old) runs)
rests_end old now runs i h so_far = so_far ∙ ap (λ l. appended old (rests (chain_of old) l)) (take_all i runs h)

pub count_end : (held : ℕ → List PacketReport) (runs : List RunView) (i count : ℕ) → length runs ≤ i → count ≡ length (rests held (take i runs)) → count ≡ length (rests held runs)
count_end held runs i count h so_far = so_far ∙ ap (λ l. length (rests held l)) (take_all i runs h)

-- how an absorb ends
pub refused_state : (v : ReplicaView) (runs : List RunView) (f : AbsorbFault) → IsRefusal f → v ≡ absorbed v runs (outcome_of (Err f))
unfolding appended
refused_state v runs (gap origin have from) ok = refl
refused_state v runs (forked_at origin at) ok = refl
refused_state v runs (own_ahead have said) ok = refl
refused_state v runs (stopped_at taken cause) ok = absurd ok

-- what runs have that were gone through, with what the next one has
pub rests_next : (held : ℕ → List PacketReport) (runs : List RunView) (i : ℕ) (r : RunView) → i < length runs → r ≡ get_or runs i r → rests held (take (i + 1) runs) ≡ rests held (take i runs) ++ with_origin r.origin (rest_of held r)
rests_next held runs i r h is = ap (rests held) (take_next runs i r h is) ∙ rests_append held (take i runs) (r ∷ []) ∙ ap (λ l. rests held (take i runs) ++ l) (rests_one held r)

pub rests_counted : (held : ℕ → List PacketReport) (runs : List RunView) (i : ℕ) (r : RunView) (count n : ℕ) → i < length runs → r ≡ get_or runs i r → count ≡ length (rests held (take i runs)) → n ≡ length r.reports - (length (held r.origin) - r.start) → count + n ≡ length (rests held (take (i + 1) runs))
rests_counted held runs i r count n h is so_far more =
    let here = rest_of held r in
    sums count n (length (rests held (take i runs))) (length (with_origin r.origin here)) (length (rests held (take (i + 1) runs))) so_far
    (more ∙ sym (length_drop (length (held r.origin) - r.start) r.reports) ∙ sym (origin_length r.origin here))
    (ap length (rests_next held runs i r h is) ∙ length-append (rests held (take i runs)) (with_origin r.origin here)) where
      sums : (a b c d e : ℕ) → a ≡ c → b ≡ d → e ≡ c + d → a + b ≡ e
      sums a b c d e p q s = omega (arith, p, q, s)

-- where no run has a fault, none has anything of the own name past the chain
none_here : (name : ℕ) (held : ℕ → List PacketReport) (r : RunView) → fault_of name held r ≡ None → of name (with_origin r.origin (rest_of held r)) ≡ []
unfolding of with_origin
none_here name held r none =
    elim (name == r.origin) as (λ b. name == r.origin ≡ b → of name (with_origin r.origin (rest_of held r)) ≡ []) [
      | true ↦ λ at. ap (λ (l : List PacketReport). of name (with_origin r.origin l)) (own_nothing name held r none (sym (eqb-true name r.origin at)))
      | false ↦ λ at. of_other name r.origin (rest_of held r) (eqb-false name r.origin at)
    ] refl

pub none_own : (name : ℕ) (held : ℕ → List PacketReport) (runs : List RunView) → first_fault name held runs ≡ None → of name (rests held runs) ≡ []
unfolding rests of first_fault
none_own name held [] none = refl
none_own name held (r ∷ rs) none =
    let both = or_none (fault_of name held r) (first_fault name held rs) none in
    of_append name (with_origin r.origin (rest_of held r)) (rests held rs)
    ∙ (λ i. none_here name held r both.0 i ++ none_own name held rs both.1 i)
