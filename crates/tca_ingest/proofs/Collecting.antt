-- Inputs and their results, place by place, and entries that are taken out one by one.
use Rattle.std.proofs.Common.{◌≡◌, ◌≢◌, ◌⊎◌, ◌≤◌, ℕ, zero, suc, ◌+◌, ◌<◌, List, [], ◌∷◌, ◌++◌, length, get_or, set, slice_get, take, ap, sym, ◌∙◌, subst, arith, map, refl, add-one, Option, Some, None, Result, is_some, true, false, inl, inr}
use Rattle.std.specs.List.{AllByRecursion, AllZip, remove}
use Rattle.std.specs.List.Sorted.{IsPermutation}
use Rattle.std.proofs.lemmas.List.{take_all, take_more, append-nil, append_assoc}
use Rattle.std.proofs.lemmas.Option.{slice_get-get_or, slice_get_within}
use Rattle.std.proofs.lemmas.List.Sorted.{IsPermutation-map, IsPermutation-middle, IsPermutation-refl, IsPermutation-remove, IsPermutation-sym, IsPermutation-trans, IsPermutation-append_right}
use denote.Bor.{Bor}
use Rattle.tca_report.specs.input.Inputs.{input_view}
use Rattle.tca_report.specs.declared.input.Input.{Input}
use Rattle.tca_report.specs.declared.input.Notes.{Notes}
use Rattle.tca_ingest.specs.Entries.{EntryView}
use Rattle.tca_ingest.specs.EntryViews.{entry_view, entry_views}
use Rattle.tca_ingest.specs.Passes.{PassView}
use Rattle.tca_ingest.specs.Works.{AreBack, AreBackAll, AreNumberedFrom, AreResults, AreLentResults, AreResultsAt, AreUnused, HasNoPlace, HaveMore, IsEntriesFault, IsLackedBy, IsLacking, IsOfJobs, IsPlaceFault, IsResult, IsResultAt, IsWithoutResult, Place, ResultView, calls_left, entries_in, entry_in, all_calls, views_of}
use Rattle.tca_ingest.specs.declared.entry.Entry.{Entry}
use Rattle.tca_ingest.specs.declared.entry.Receipt.{Receipt}
use Rattle.tca_ingest.specs.declared.fault.WorkFault.{WorkFault}
use Rattle.tca_ingest.specs.declared.fault.WorkFault.TheVariants as fault
use Rattle.tca_ingest.specs.declared.job.JobFault.{JobFault}
use Rattle.tca_ingest.specs.declared.job.Done.{Done}

pub zip_push : {A B : Type 0} (R : A → B → Type 0) (xs : List A) (ys : List B) (x : A) (y : B) → AllZip R xs ys → R x y → AllZip R (xs ++ x ∷ []) (ys ++ y ∷ [])
zip_push R [] [] x y all here = (here, tt)
zip_push R [] (b ∷ ys) x y all here = absurd all
zip_push R (a ∷ xs) [] x y all here = absurd all
zip_push R (a ∷ xs) (b ∷ ys) x y all here = (all.0, zip_push R xs ys x y all.1 here)

pub zip_set : {A B : Type 0} (R : A → B → Type 0) (xs : List A) (ys : List B) (i : ℕ) (d : A) (y : B) → AllZip R xs ys → i < length xs → R (get_or xs i d) y → AllZip R xs (set ys i y)
zip_set R [] ys i d y all low here = absurd (omega (arith, low))
zip_set R (a ∷ xs) [] i d y all low here = absurd all
zip_set R (a ∷ xs) (b ∷ ys) zero d y all low here = (here, all.1)
zip_set R (a ∷ xs) (b ∷ ys) (suc i) d y all low here = (all.0, zip_set R xs ys i d y all.1 (omega (arith, low)) here)

-- a place that was seen to be empty
pub empty_there : {A : Type 0} (places : List (Option A)) (i : ℕ) (x : Option A) → i < length places → x ≡ get_or places i x → is_some x ≡ false → (d : Option A) → get_or places i d ≡ None
empty_there [] i x low is none d = absurd (omega (arith, low))
empty_there (p ∷ ps) zero None low is none d = sym is
empty_there (p ∷ ps) zero (Some y) low is none d = absurd cc
empty_there (p ∷ ps) (suc i) x low is none d = empty_there ps i x (omega (arith, low)) is none d

zip_next : {A B : Type 0} (R : A → B → Type 0) (xs : List A) (i : ℕ) (ys : List B) (y : B) → ((x : A) → R x y) → i < length xs → AllZip R (take i xs) ys → AllZip R (take (suc i) xs) (ys ++ y ∷ [])
zip_next R [] i ys y any low all = absurd (omega (arith, low))
zip_next R (x ∷ xs) zero [] y any low all = (any x, tt)
zip_next R (x ∷ xs) zero (b ∷ ys) y any low all = absurd all
zip_next R (x ∷ xs) (suc i) [] y any low all = absurd all
zip_next R (x ∷ xs) (suc i) (b ∷ ys) y any low all = (all.0, zip_next R xs i ys y any (omega (arith, low)) all.1)

-- one more of the first list, with an item that goes with any
pub zip_any : {A B : Type 0} (R : A → B → Type 0) (xs : List A) (i : ℕ) (ys : List B) (y : B) → ((x : A) → R x y) → i < length xs → AllZip R (take i xs) ys → AllZip R (take (i + 1) xs) (ys ++ y ∷ [])
zip_any R xs i ys y any low all = rw add-one (zip_next R xs i ys y any low all)

pub zip_through : {A B C : Type 0} (R : A → B → Type 0) (S : B → C → Type 0) (T : A → C → Type 0) → ((a : A) (b : B) (c : C) → R a b → S b c → T a c)
    → (xs : List A) (ys : List B) (zs : List C) → AllZip R xs ys → AllZip S ys zs → AllZip T xs zs
zip_through R S T step [] [] [] one two = tt
zip_through R S T step [] [] (z ∷ zs) one two = absurd two
zip_through R S T step [] (y ∷ ys) zs one two = absurd one
zip_through R S T step (x ∷ xs) [] zs one two = absurd one
zip_through R S T step (x ∷ xs) (y ∷ ys) [] one two = absurd two
zip_through R S T step (x ∷ xs) (y ∷ ys) (z ∷ zs) one two = (step x y z one.0 two.0, zip_through R S T step xs ys zs one.1 two.1)

pub entries_in-push : (ds : List Done) (d : Done) → entries_in (ds ++ d ∷ []) ≡ entries_in ds ++ entry_in d.result
unfolding entries_in
entries_in-push [] d = append-nil (entry_in d.result)
entries_in-push (x ∷ ds) d = ap (λ es. entry_in x.result ++ es) (entries_in-push ds d) ∙ sym (append_assoc (entry_in x.result) (entries_in ds) (entry_in d.result))

pub all_calls-push : (ps : List PassView) (p : PassView) → all_calls (ps ++ p ∷ []) ≡ all_calls ps ++ p.calls
unfolding all_calls
all_calls-push [] p = append-nil p.calls
all_calls-push (q ∷ ps) p = ap (λ es. q.calls ++ es) (all_calls-push ps p) ∙ sym (append_assoc q.calls (all_calls ps) p.calls)

-- one pass more, x, which stands at i
pub calls_more : (ps : List PassView) (i : ℕ) (x : PassView) (old new calls : List EntryView) → i < length ps → x ≡ get_or ps i x → old ≡ all_calls (take i ps) → new ≡ old ++ calls → calls ≡ x.calls → new ≡ all_calls (take (i + 1) ps)
calls_more ps i x old new calls low is so_far more its =
    let last : all_calls (take (i + 1) ps) ≡ all_calls (take i ps) ++ (get_or ps i x).calls = ap all_calls (take_more ps i x low) ∙ all_calls-push (take i ps) (get_or ps i x) in
    more ∙ ap (λ es. es ++ calls) so_far ∙ ap (λ es. all_calls (take i ps) ++ es) (its ∙ ap (λ p. p.calls) is) ∙ sym last

-- one entry taken out
pub strikes : (xs ys : List (Bor Entry)) (i : ℕ) (x : Bor Entry) (e : EntryView) → i < length xs → x ≡ get_or xs i x → entry_view x.now ≡ e → ys ≡ remove xs i → IsPermutation (views_of xs) (e ∷ views_of ys)
strikes xs ys i x e low is says rest =
    let whole = IsPermutation-map (λ (b : Bor Entry). entry_view b.now) xs (x ∷ remove xs i) (IsPermutation-remove xs i x low is) in
    subst (λ zs. IsPermutation (views_of xs) (e ∷ views_of zs)) (sym rest) (subst (λ s. IsPermutation (views_of xs) (s ∷ views_of (remove xs i))) says whole)

-- one list of calls more
calls_left-push : (ls : List (Bor (List Entry))) (l : Bor (List Entry)) → calls_left (ls ++ l ∷ []) ≡ calls_left ls ++ entry_views l.now
unfolding calls_left
calls_left-push [] l = append-nil (entry_views l.now)
calls_left-push (x ∷ ls) l = ap (λ es. entry_views x.now ++ es) (calls_left-push ls l) ∙ sym (append_assoc (entry_views x.now) (calls_left ls) (entry_views l.now))

pub list_more : (old new : List (Bor (List Entry))) (l : Bor (List Entry)) → new ≡ old ++ l ∷ [] → calls_left new ≡ calls_left old ++ entry_views l.now
list_more old new l more = ap calls_left more ∙ calls_left-push old l

none_in : (es : List Entry) → length es ≡ 0 → entry_views es ≡ []
none_in [] none = refl
none_in (e ∷ es) none = absurd cc

-- one list more of which nothing is left
pub none_more : (ls : List (Bor (List Entry))) (i : ℕ) (x : Bor (List Entry)) → i < length ls → x ≡ get_or ls i x → length x.now ≡ 0 → calls_left (take i ls) ≡ [] → calls_left (take (i + 1) ls) ≡ []
none_more ls i x low is none so_far =
    ap calls_left (take_more ls i x low) ∙ calls_left-push (take i ls) (get_or ls i x) ∙ ap (λ es. es ++ entry_views (get_or ls i x).now) so_far ∙ ap (λ (l : Bor (List Entry)). entry_views l.now) (sym is) ∙ none_in x.now none

-- the list at this place begins with e, and l' comes after it
pub front_taken : (ls : List (Bor (List Entry))) (at : ℕ) (l l' : Bor (List Entry)) (e : EntryView) → at < length ls → l ≡ get_or ls at l → entry_views l.now ≡ e ∷ entry_views l'.now → IsPermutation (calls_left ls) (e ∷ calls_left (set ls at l'))
unfolding calls_left
front_taken [] at l l' e low is begins = absurd (omega (arith, low))
front_taken (x ∷ ls) zero l l' e low is begins =
    subst (λ es. IsPermutation (es ++ calls_left ls) (e ∷ (entry_views l'.now ++ calls_left ls))) (sym begins ∙ ap (λ (b : Bor (List Entry)). entry_views b.now) is) (IsPermutation-refl (e ∷ (entry_views l'.now ++ calls_left ls)))
front_taken (x ∷ ls) (suc at) l l' e low is begins =
    let before = entry_views x.now in
    let rest = calls_left (set ls at l') in
    IsPermutation-trans (before ++ calls_left ls) (before ++ e ∷ rest) (e ∷ (before ++ rest)) (IsPermutation-append_right before (calls_left ls) (e ∷ rest) (front_taken ls at l l' e (omega (arith, low)) is begins)) (IsPermutation-middle before e rest)

-- the results up to the next one
pub strike_more : (ds : List Done) (i : ℕ) (d : Done) (old new all : List EntryView) → i < length ds → IsPermutation (entries_in (take i ds) ++ old) all → IsPermutation old (entry_in (get_or ds i d).result ++ new)
    → IsPermutation (entries_in (take (i + 1) ds) ++ new) all
strike_more ds i d old new all low so_far here =
    let done = entries_in (take i ds) in
    let its = entry_in (get_or ds i d).result in
    let same : entries_in (take (i + 1) ds) ≡ done ++ its = ap entries_in (take_more ds i d low) ∙ entries_in-push (take i ds) (get_or ds i d) in
    let whole : entries_in (take (i + 1) ds) ++ new ≡ done ++ (its ++ new) = ap (λ es. es ++ new) same ∙ append_assoc done its new in
    subst (λ es. IsPermutation es all) (sym whole) (IsPermutation-trans (done ++ (its ++ new)) (done ++ old) all (IsPermutation-append_right done (its ++ new) old (IsPermutation-sym old (its ++ new) here)) so_far)

-- one more of which it holds
pub all_push : {A : Type 0} (P : A → Type 0) (xs : List A) (x : A) → AllByRecursion P xs → P x → AllByRecursion P (xs ++ x ∷ [])
all_push P [] x all here = (here, tt)
all_push P (y ∷ xs) x all here = (all.0, all_push P xs x all.1 here)

pub all_more : {A : Type 0} (P : A → Type 0) (xs : List A) (i : ℕ) (d : A) → i < length xs → AllByRecursion P (take i xs) → P (get_or xs i d) → AllByRecursion P (take (i + 1) xs)
all_more P xs i d low all here = subst (AllByRecursion P) (sym (take_more xs i d low)) (all_push P (take i xs) (get_or xs i d) all here)

-- as many as those that they are of
pub zip_length : {A B : Type 0} (R : A → B → Type 0) (xs : List A) (ys : List B) → AllZip R xs ys → length ys ≡ length xs
zip_length R [] [] all = refl
zip_length R [] (b ∷ ys) all = absurd all
zip_length R (a ∷ xs) [] all = absurd all
zip_length R (a ∷ xs) (b ∷ ys) all = ap suc (zip_length R xs ys all.1)

pub numbered_push : (n : ℕ) (ds : List Done) (d : Done) → AreNumberedFrom n ds → d.job ≡ n + length ds → AreNumberedFrom n (ds ++ d ∷ [])
numbered_push n [] d all here = (here ∙ omega (arith), tt)
numbered_push n (x ∷ ds) d all here = (all.0, numbered_push (suc n) ds d all.1 (here ∙ omega (arith)))

-- inputs that are borrowed have the results of the inputs
pub results_of : (lent : List (Bor Input)) (inputs : List Input) (done : List Done) → map (λ s. s.now) lent ≡ inputs → AreLentResults lent done → AreResults inputs done
results_of [] [] [] same all = tt
results_of [] [] (d ∷ ds) same all = absurd all
results_of [] (v ∷ vs) ds same all = absurd cc
results_of (s ∷ ss) [] ds same all = absurd cc
results_of (s ∷ ss) (v ∷ vs) [] same all = absurd all
results_of (s ∷ ss) (v ∷ vs) (d ∷ ds) same all =
    let here : s.now ≡ v = cc same in
    let rest : map (λ (b : Bor Input). b.now) ss ≡ vs = cc same in
    (subst (λ (input : Input). IsResult (input_view input) d.result) here all.0, results_of ss vs ds rest all.1)

-- places that go with results have them
places_filled : (places : List Place) (done : List Done) → AllZip (λ place d. place ≡ Some d.result) places done → AllByRecursion (λ place. place ≢ None) places
places_filled [] done all = tt
places_filled (p ∷ ps) [] all = absurd all
places_filled (p ∷ ps) (d ∷ ds) all = ((λ none. absurd (other (sym all.0 ∙ none))), places_filled ps ds all.1) where
  other : Some d.result ≡ None → ⊥
  other e = cc

-- the first place that is empty
pub without_result : (places yielded : List Place) (done : List Done) (x : Place) (job : ℕ) → AllZip (λ place d. place ≡ Some d.result) yielded done → yielded ≡ take (length yielded) places → length yielded < length places → x ≡ get_or places (length yielded) x
    → x ≡ None → job ≡ length done → IsWithoutResult places job
without_result places yielded done x job zip front low is none at =
    let n : job ≡ length yielded = at ∙ zip_length (λ (place : Place) (d : Done). place ≡ Some d.result) yielded done zip in
    record {
      here = ap (slice_get places) n ∙ slice_get-get_or places (length yielded) x low ∙ ap Some (sym is ∙ none);
      before = subst (AllByRecursion (λ (place : Place). place ≢ None)) (front ∙ ap (λ k. take k places) (sym n)) (places_filled yielded done zip);
    }

-- a place that has a result
result_there : (x : Place) → is_some x ≡ true → (result : Result (Notes × Receipt) JobFault) × (x ≡ Some result)
result_there None e = absurd cc
result_there (Some result) e = (result, refl)

-- why a result has no place
pub no_input : (inputs : List (Bor Input)) (places : List Place) (r : ResultView) → AreResultsAt inputs places → (length inputs ≤ r.job) ⊎ (length places ≤ r.job) → HasNoPlace inputs places r
no_input inputs places r all (inl past) = inl past
no_input inputs places r all (inr past) = inl (subst (λ n. n ≤ r.job) (zip_length (λ (input : Bor Input) (place : Place). IsResultAt (input_view input.now) place) inputs places all) past)

pub taken_place : (inputs : List (Bor Input)) (places : List Place) (r : ResultView) (x : Place) → r.job < length places → x ≡ get_or places r.job x → is_some x ≡ true → HasNoPlace inputs places r
taken_place inputs places r x low is some = let found = result_there x some in inr (inl (found.0, slice_get-get_or places r.job x low ∙ ap Some (sym is ∙ found.1)))

pub other_input : (inputs : List (Bor Input)) (places : List Place) (r : ResultView) (b : Bor Input) → r.job < length inputs → b ≡ get_or inputs r.job b → input_view b.now ≢ r.input → HasNoPlace inputs places r
other_input inputs places r b low is other = inr (inr (b, slice_get-get_or inputs r.job b low ∙ ap Some (sym is), other))

-- nothing is left
pub none_left : (done : List Done) (n : ℕ) (left all : List EntryView) → length done ≤ n → IsPermutation (entries_in (take n done) ++ left) all → left ≡ [] → IsPermutation (entries_in done) all
none_left done n left all whole are none =
    let rest : entries_in (take n done) ++ left ≡ entries_in done = ap (λ es. entries_in (take n done) ++ es) none ∙ append-nil (entries_in (take n done)) ∙ ap entries_in (take_all n done whole) in
    subst (λ es. IsPermutation es all) rest are

-- more entries are left
pub have_more : (done : List Done) (passes : List PassView) (n : ℕ) (left : List (Bor Entry)) → length done ≤ n → IsPermutation (entries_in (take n done) ++ views_of left) (all_calls passes) → length left ≢ 0 → HaveMore done passes
have_more done passes n [] whole all some = absurd (some refl)
have_more done passes n (e ∷ es) whole all some = record {
  first = entry_view e.now;
  left = views_of es;
  others = subst (λ (ds : List Done). IsPermutation (entries_in ds ++ entry_view e.now ∷ views_of es) (all_calls passes)) (take_all n done whole) all;
}

-- the result whose entry is lacking
pub lacking : (done : List Done) (passes : List PassView) (job : ℕ) (d : Done) (left : List EntryView) → job < length done → d ≡ get_or done job d → IsPermutation (entries_in (take job done) ++ left) (all_calls passes) → IsLackedBy left d.result → IsLacking done passes job
lacking done passes job d left low is others lacks = record {
  one = d;
  at = slice_get-get_or done job d low ∙ ap Some (sym is);
  left = left;
  others = others;
  lacks = lacks;
}

-- what comes back of workers, fault by fault
pub back_all : (workers : ℕ) (f : WorkFault) (passes : List PassView) → (f ≢ fault.PassesOut → length passes ≡ workers) → (f ≡ fault.PassesOut → length passes < workers) → (f ≡ fault.PassesOut → AreUnused passes) → AreBackAll workers f passes
back_all workers (fault.JobMissing job) passes all few unused = all (λ e. absurd cc)
back_all workers (fault.Stranger job) passes all few unused = all (λ e. absurd cc)
back_all workers fault.NoThread passes all few unused = all (λ e. absurd cc)
back_all workers fault.PassesOut passes all few unused = (few refl, unused refl)
back_all workers fault.Memory passes all few unused = all (λ e. absurd cc)

pub back : (workers : ℕ) (f : WorkFault) (passes : List PassView) → AreBackAll workers f passes → AreBack workers f passes
back workers (fault.JobMissing job) passes all = all
back workers (fault.Stranger job) passes all = all
back workers fault.NoThread passes all = all
back workers fault.PassesOut passes all = all
back workers fault.Memory passes all = inr all

pub back_none : (workers : ℕ) (f : WorkFault) (passes : List PassView) → f ≡ fault.Memory → passes ≡ [] → AreBack workers f passes
back_none workers f passes memory none = subst (λ f. AreBack workers f passes) (sym memory) (inl none)

-- the place that is named is one of the places
pub place_of_jobs : (inputs : List (Bor Input)) (places : List Place) (f : WorkFault) → AreResultsAt inputs places → IsPlaceFault places f → IsOfJobs (length inputs) f
place_of_jobs inputs places (fault.JobMissing job) all is = subst (λ n. job < n) (zip_length (λ (input : Bor Input) (place : Place). IsResultAt (input_view input.now) place) inputs places all) (slice_get_within places job None is.here)
place_of_jobs inputs places (fault.Stranger job) all is = tt
place_of_jobs inputs places fault.NoThread all is = tt
place_of_jobs inputs places fault.PassesOut all is = tt
place_of_jobs inputs places fault.Memory all is = tt

pub run_of_jobs : (count : ℕ) (f : WorkFault) → (f ≡ fault.NoThread) ⊎ (f ≡ fault.Memory) → IsOfJobs count f
run_of_jobs count f (inl e) = subst (IsOfJobs count) (sym e) tt
run_of_jobs count f (inr e) = subst (IsOfJobs count) (sym e) tt

pub entries_of_jobs : (count : ℕ) (done : List Done) (passes : List PassView) (f : WorkFault) → IsEntriesFault done passes f → IsOfJobs count f
entries_of_jobs count done passes (fault.JobMissing job) is = absurd is
entries_of_jobs count done passes (fault.Stranger job) is = tt
entries_of_jobs count done passes fault.NoThread is = tt
entries_of_jobs count done passes fault.PassesOut is = tt
entries_of_jobs count done passes fault.Memory is = tt
