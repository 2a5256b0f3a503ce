-- A first reading, message by message and piece by piece.
use Rattle.std.proofs.Common.{◌≡◌, ℕ, ◌+◌, ◌-◌, ◌^◌, ◌<◌, ◌≤◌, true, false, cond, List, [], ◌∷◌, ◌++◌, length, Option, Some, None, Ok, Err, refl, sym, ap, ap₂, subst, ◌∙◌, arith, drop, ◌⊎◌, inl, inr}
use Rattle.std.specs.Prelude.{◌==◌, ◌||◌, nat_lt, min, Result, IfOk, IfErr, IsErrOf}
use Rattle.std.proofs.lemmas.Bool.Decides.{nat_tests}
use Rattle.std.proofs.lemmas.List.{length-append, drop_at}
use Rattle.std.specs.BTreeMap.{is_at}
use Rattle.std.specs.BTreeSet.{contains}
use Rattle.std.specs.List.{list_any}
use Rattle.std.specs.Ordering.{nat_cmp}
use Rattle.tca_wire.specs.Frames.{Framing, Holds, Failed, IsStream, Feeds, HoldsPart, fault_of, ending, frames_of}
use Rattle.tca_wire.specs.declared.fault.WireFault.{WireFault}
use Rattle.tca_wire.specs.declared.fault.WireFault.TheVariants as wire
use Rattle.tca_wire.proofs.Framings.{joined}
use Rattle.tca_wire.proofs.FramesOf.{frames_are, is_stream}
use Rattle.tca_report.specs.device.Devices.{read_size}
use Rattle.tca_report.proofs.lemmas.input.CaptureParts.{fails_on, in_longer}
use Rattle.tca_split.specs.Parts.{domain_of, domains_of}
use Rattle.tca_split.specs.Surveys.{most_domains, is_among, as_u64, surveyed, surveyed_as, unless_cut}
use Rattle.tca_split.specs.Faults.{framing_fault}
use Rattle.tca_split.specs.inside.Surveying.{Surveys, IsFramed, AreTooMany, IsFirstRefused, IsOfFraming}
use Rattle.tca_split.specs.Failures.{CountsReadFault}
use Rattle.tca_split.specs.Wants.{ending_in, IsNewDomain, BringDomain, BringMore, WantsMemory}
use Rattle.tca_report.specs.declared.device.octets.ReadFault.TheVariants as read
use Rattle.tca_split.specs.declared.survey.Survey.{Survey}
use Rattle.tca_split.specs.declared.fault.SplitFault.{SplitFault}
use Rattle.tca_split.specs.declared.fault.SplitFault.TheVariants.{Read, Wire, Limits, Exists, Changed, Write, Memory}
use Rattle.tca_split.proofs.CreateSteps.{among_push}
use Rattle.tca_split.proofs.DomainLists.{domains_push, no_fewer}

counted_one : (n k : ℕ) → k ≡ min n (2 ^ 64 - 1) → min (k + 1) (2 ^ 64 - 1) ≡ min (n + 1) (2 ^ 64 - 1)
counted_one n k e = omega (arith, e)

more_messages : (ms : List (List ℕ)) (m : List ℕ) (s t : Survey) → Surveys ms s → t.messages ≡ min (s.messages + 1) (2 ^ 64 - 1) → t.messages ≡ as_u64 (length (ms ++ m ∷ []))
more_messages ms m s t h count = count ∙ counted_one (length ms) s.messages h.count ∙ ap (λ n. min n (2 ^ 64 - 1)) (sym (length-append ms (m ∷ [])))

new_domain : (ms : List (List ℕ)) (m : List ℕ) (s : Survey) → Surveys ms s → contains nat_cmp s.known (domain_of m) ≡ false → domains_of (ms ++ m ∷ []) ≡ domains_of ms ++ domain_of m ∷ []
new_domain ms m s h new =
    let ds = domains_of ms in
    let d = domain_of m in
    domains_push ms m ∙ ap (λ b. cond b ds (ds ++ d ∷ [])) (sym (h.known d) ∙ new)

-- a message of a domain that has come
pub survey_again : (ms : List (List ℕ)) (m : List ℕ) (s t : Survey) → Surveys ms s → t.domains.items ≡ s.domains.items → t.known.keys ≡ s.known.keys → contains nat_cmp s.known (domain_of m) ≡ true
    → t.messages ≡ min (s.messages + 1) (2 ^ 64 - 1) → Surveys (ms ++ m ∷ []) t
survey_again ms m s t h same keys there count =
    let ds = domains_of ms in
    let d = domain_of m in
    let is : domains_of (ms ++ m ∷ []) ≡ ds = domains_push ms m ∙ ap (λ b. cond b ds (ds ++ d ∷ [])) (sym (h.known d) ∙ there) in
    record {
      domains = same ∙ h.domains ∙ sym is;
      known = λ e. ap (list_any (is_at (nat_cmp e))) keys ∙ h.known e ∙ ap (is_among e) (sym is);
      few = omega (arith, h.few, ap (λ (l : List ℕ). length l) is);
      count = more_messages ms m s t h count;
    }

-- the first message of a domain, where fewer than the most have come
pub survey_new : (ms : List (List ℕ)) (m : List ℕ) (s t : Survey) → Surveys ms s → t.domains.items ≡ s.domains.items ++ domain_of m ∷ []
    → ((e : ℕ) → contains nat_cmp t.known e ≡ (contains nat_cmp s.known e || (e == domain_of m))) → contains nat_cmp s.known (domain_of m) ≡ false → length s.domains.items < 4096
    → t.messages ≡ min (s.messages + 1) (2 ^ 64 - 1) → Surveys (ms ++ m ∷ []) t
survey_new ms m s t h more keys new few count =
    let ds = domains_of ms in
    let d = domain_of m in
    let is = new_domain ms m s h new in
    record {
      domains = more ∙ ap (λ (l : List ℕ). l ++ d ∷ []) h.domains ∙ sym is;
      known = λ e. keys e ∙ ap (λ b. b || (e == d)) (h.known e) ∙ sym (among_push ds d e) ∙ ap (is_among e) (sym is);
      few = omega (arith, few, ap (λ (l : List ℕ). length l) is, length-append ds (d ∷ []), ap (λ (l : List ℕ). length l) h.domains);
      count = more_messages ms m s t h count;
    }

-- a domain more than there may be
survey_full : (ms : List (List ℕ)) (m : List ℕ) (s : Survey) → Surveys ms s → 4096 ≤ length s.domains.items → contains nat_cmp s.known (domain_of m) ≡ false
    → most_domains < length (domains_of (ms ++ m ∷ []))
survey_full ms m s h many new =
    omega (arith, many, ap (λ (l : List ℕ). length l) (new_domain ms m s h new), length-append (domains_of ms) (domain_of m ∷ []), ap (λ (l : List ℕ). length l) h.domains)

-- why a domain isn't noted
pub survey_refused : (ms : List (List ℕ)) (m : List ℕ) (s : Survey) (e : SplitFault) → Surveys ms s → contains nat_cmp s.known (domain_of m) ≡ false → (e ≡ Limits) ⊎ (e ≡ Memory)
    → (e ≡ Limits → 4096 ≤ length s.domains.items) → AreTooMany (ms ++ m ∷ []) e
survey_refused ms m s e h new (inl is) full = subst (λ (x : SplitFault). AreTooMany (ms ++ m ∷ []) x) (sym is) (survey_full ms m s h (full is) new)
survey_refused ms m s e h new (inr is) full = subst (λ (x : SplitFault). AreTooMany (ms ++ m ∷ []) x) (sym is) tt

-- memory that is wanted for a domain
pub survey_first : (ms : List (List ℕ)) (m : List ℕ) (s : Survey) → Surveys ms s → length s.domains.items < 4096 → contains nat_cmp s.known (domain_of m) ≡ false → IsNewDomain ms m
survey_first ms m s h few new = (sym (h.known (domain_of m)) ∙ new, omega (arith, few, ap (λ (l : List ℕ). length l) h.domains))

-- what is too many stays so with more messages
pub still_many : (a b : List (List ℕ)) (e : SplitFault) → AreTooMany a e → AreTooMany (a ++ b) e
still_many a b (Read fault) h = h
still_many a b (Wire fault) h = h
still_many a b Limits h = omega (arith, h, no_fewer a b)
still_many a b Exists h = h
still_many a b Changed h = h
still_many a b Write h = h
still_many a b Memory h = h

pub surveyed_is : (octets : List ℕ) (ms : List (List ℕ)) (after : Framing) → IsStream octets ms after → length (domains_of ms) ≤ most_domains
    → surveyed octets ≡ unless_cut (domains_of ms) (length ms) (ending after)
surveyed_is octets ms after s few =
    let same = frames_are octets ms after s in
    let room : nat_lt 4096 (length (domains_of ms)) ≡ false = grind (arith, nat_tests, few) in
    ap₂ (λ (l : List (List ℕ)) (x : Framing). surveyed_as l x) same.0 same.1 ∙ ap (λ b. cond b (Err Limits) (unless_cut (domains_of ms) (length ms) (ending after))) room

surveyed_many : (octets : List ℕ) (ms : List (List ℕ)) (after : Framing) → IsStream octets ms after → most_domains < length (domains_of ms) → surveyed octets ≡ Err Limits
surveyed_many octets ms after s many =
    let same = frames_are octets ms after s in
    let full : nat_lt 4096 (length (domains_of ms)) ≡ true = grind (arith, nat_tests, many) in
    ap₂ (λ (l : List (List ℕ)) (x : Framing). surveyed_as l x) same.0 same.1 ∙ ap (λ b. cond b (Err Limits) (unless_cut (domains_of ms) (length ms) (ending after))) full

-- messages of too many domains, whatever is behind them
pub refused_within : (octets behind : List ℕ) (ms : List (List ℕ)) (after : Framing) (e : SplitFault) → IsStream octets ms after → AreTooMany ms e → IsFirstRefused (octets ++ behind) e
refused_within octets behind ms after (Read fault) s h = absurd h
refused_within octets behind ms after (Wire fault) s h = absurd h
refused_within octets behind ms after Limits s h =
    let l = in_longer octets behind ms after s in
    surveyed_many (octets ++ behind) (ms ++ l.0) l.1 l.2 (omega (arith, h, no_fewer ms l.0))
refused_within octets behind ms after Exists s h = h
refused_within octets behind ms after Changed s h = h
refused_within octets behind ms after Write s h = h
refused_within octets behind ms after Memory s h = tt

pub refused_by_fault : (octets : List ℕ) (fault : WireFault) → surveyed octets ≡ Err (Wire fault) → IsFirstRefused octets (framing_fault fault)
refused_by_fault octets wire.Memory e = tt
refused_by_fault octets wire.Short e = e
refused_by_fault octets (wire.BadVersion v) e = e
refused_by_fault octets (wire.BadLength n) e = e
refused_by_fault octets (wire.SetLength at) e = e
refused_by_fault octets (wire.SetPastEnd at) e = e
refused_by_fault octets (wire.Trailing at) e = e

same_fault : (a b : WireFault) → Some a ≡ Some b → a ≡ b
same_fault a b e = cc

-- a header with a fault, whatever is behind it
pub failed_stream : (octets behind : List ℕ) (ms : List (List ℕ)) (after : Framing) (fault : WireFault) → IsStream octets ms after → fault_of after ≡ Some fault → IsStream (octets ++ behind) ms (Failed fault)
failed_stream octets behind ms (Holds held) fault s e = absurd cc
failed_stream octets behind ms (Failed other) fault s e = subst (λ (f : WireFault). IsStream (octets ++ behind) ms (Failed f)) (same_fault other fault e) (fails_on octets behind ms other s)

-- a piece more
pub fed : (octets piece : List ℕ) (ms ns : List (List ℕ)) (framer after : Framing) → IsFramed octets ms framer → Feeds framer piece ns after → IsStream (octets ++ piece) (ms ++ ns) after
fed octets piece ms ns framer after f feeds = joined octets piece f.held ms ns after f.stream (subst (λ x. Feeds x piece ns after) f.holds feeds)

pub framed_on : (octets : List ℕ) (ms : List (List ℕ)) (after : Framing) → IsStream octets ms after → fault_of after ≡ None → IsFramed octets ms after
framed_on octets ms (Holds held) s e = record { held = held; stream = s; holds = refl }
framed_on octets ms (Failed fault) s e = absurd cc

-- the whole stream
pub framed_stream : (octets : List ℕ) (ms : List (List ℕ)) (framer : Framing) → IsFramed octets ms framer → IsStream octets ms framer
framed_stream octets ms framer f = subst (λ x. IsStream octets ms x) (sym f.holds) f.stream

pub framed_whole : (octets : List ℕ) (ms : List (List ℕ)) (framer : Framing) → IsFramed octets ms framer → (frames_of octets).0 ≡ ms × ((frames_of octets).1 ≡ framer)
framed_whole octets ms framer f = frames_are octets ms framer (framed_stream octets ms framer f)

pub ended_badly : (octets : List ℕ) (ms : List (List ℕ)) (framer : Framing) (fault : WireFault) → IsFramed octets ms framer → length (domains_of ms) ≤ most_domains → ending framer ≡ Err fault
    → surveyed octets ≡ Err (Wire fault)
ended_badly octets ms framer fault f few e =
    surveyed_is octets ms framer (framed_stream octets ms framer f) few ∙ ap (λ r. unless_cut (domains_of ms) (length ms) r) e

pub ended_surveys : (octets : List ℕ) (ms : List (List ℕ)) (framer : Framing) (s : Survey) → IsFramed octets ms framer → Surveys ms s → ending framer ≡ Ok tt → Surveys (frames_of octets).0 s × (ending (frames_of octets).1 ≡ Ok tt)
ended_surveys octets ms framer s f h e =
    let same = framed_whole octets ms framer f in
    (subst (λ (l : List (List ℕ)). Surveys l s) (sym same.0) h, ap ending same.1 ∙ e)

-- no octets
pub framed_none : IsFramed [] [] (Holds [])
framed_none = record { held = []; stream = record { rest = []; whole = refl; each = tt; ends = (refl, inl (omega arith)) }; holds = refl }

pub framing_kind : (fault : WireFault) → IsOfFraming (framing_fault fault)
framing_kind wire.Memory = tt
framing_kind wire.Short = tt
framing_kind (wire.BadVersion v) = tt
framing_kind (wire.BadLength n) = tt
framing_kind (wire.SetLength at) = tt
framing_kind (wire.SetPastEnd at) = tt
framing_kind (wire.Trailing at) = tt

-- a fault of the octets is no failed read
pub calm_kind : (e : SplitFault) (old new : ℕ) → IsOfFraming e → new ≡ old → CountsReadFault e old new
calm_kind (Read read.Read) old new h e = absurd h
calm_kind (Read read.Turns) old new h e = e
calm_kind (Read read.Memory) old new h e = e
calm_kind (Wire fault) old new h e = e
calm_kind Limits old new h e = e
calm_kind Exists old new h e = e
calm_kind Changed old new h e = e
calm_kind Write old new h e = e
calm_kind Memory old new h e = e

pub not_turns : (e : SplitFault) → IsOfFraming e → e ≡ Read read.Turns → ⊥
not_turns e h is = subst (λ (f : SplitFault). IsOfFraming f) is h

want_of_memory : (fault : WireFault) → framing_fault fault ≡ Memory → fault ≡ wire.Memory
want_of_memory wire.Memory e = refl
want_of_memory wire.Short e = absurd cc
want_of_memory (wire.BadVersion v) e = absurd cc
want_of_memory (wire.BadLength n) e = absurd cc
want_of_memory (wire.SetLength at) e = absurd cc
want_of_memory (wire.SetPastEnd at) e = absurd cc
want_of_memory (wire.Trailing at) e = absurd cc

-- the fault of a header is no want of memory
pub header_fault : (octets : List ℕ) (ms : List (List ℕ)) (fault : WireFault) → IsStream octets ms (Failed fault) → framing_fault fault ≡ Memory → ⊥
header_fault octets ms fault s e = (subst (λ (f : WireFault). IsStream octets ms (Failed f)) (want_of_memory fault e) s).ends

end_fault : (held : List ℕ) → ending (Holds held) ≡ Err wire.Memory → ⊥
end_fault [] e = absurd cc
end_fault (b ∷ bs) e = absurd cc

-- nor is that of an end within a message
pub cut_fault : (octets : List ℕ) (ms : List (List ℕ)) (framer : Framing) (fault : WireFault) → IsFramed octets ms framer → ending framer ≡ Err fault → framing_fault fault ≡ Memory → ⊥
cut_fault octets ms framer fault f e is =
    end_fault f.held (ap ending (sym f.holds) ∙ e ∙ ap (λ (x : WireFault). Err x) (want_of_memory fault is))

abbrev IsEndFault : Framing → SplitFault → Type 0
IsEndFault framer e = (fault : WireFault) × (ending framer ≡ Err fault) × (e ≡ framing_fault fault)

-- the survey at the end of a capture
pub end_ok : (octets : List ℕ) (ms : List (List ℕ)) (framer : Framing) (s : Survey) (r : Result Survey SplitFault) → IsFramed octets ms framer → Surveys ms s
    → IfOk r (λ t. (t ≡ s) × (ending framer ≡ Ok tt)) → IfOk r (λ t. Surveys (frames_of octets).0 t × (ending (frames_of octets).1 ≡ Ok tt))
end_ok octets ms framer s (Ok t) f h e = ended_surveys octets ms framer t f (subst (λ (x : Survey). Surveys ms x) (sym e.0) h) e.1
end_ok octets ms framer s (Err x) f h e = tt

-- the fault at the end of a capture
pub end_err : (octets : List ℕ) (ms : List (List ℕ)) (framer : Framing) (s : Survey) (r : Result Survey SplitFault) → IsFramed octets ms framer → Surveys ms s
    → IfErr r (IsEndFault framer) → IfErr r (IsFirstRefused octets)
end_err octets ms framer s (Ok t) f h e = tt
end_err octets ms framer s (Err x) f h e =
    subst (λ (y : SplitFault). IsFirstRefused octets y) (sym e.2) (refused_by_fault octets e.0 (ended_badly octets ms framer e.0 f h.few e.1))

-- it is no want of memory
pub end_memory : (octets all : List ℕ) (left : Option (List ℕ)) (old new : ℕ) (ms : List (List ℕ)) (framer : Framing) (r : Result Survey SplitFault) → IsFramed octets ms framer
    → IfErr r (IsEndFault framer) → IsErrOf r Memory → (new ≡ old) ⊎ WantsMemory all left
end_memory octets all left old new ms framer (Ok t) f e is = absurd cc
end_memory octets all left old new ms framer (Err x) f e is =
    let told : x ≡ Memory = cc in
    absurd (cut_fault octets ms framer e.0 f e.1 (sym e.2 ∙ told))

-- a piece gives some messages
pub some_feed : (octets piece : List ℕ) (ms : List (List ℕ)) (framer : Framing) → IsFramed octets ms framer → (ns : List (List ℕ)) × (after : Framing) × Feeds framer piece ns after
some_feed octets piece ms framer f = (
  (frames_of (f.held ++ piece)).0,
  (frames_of (f.held ++ piece)).1,
  subst (λ x. Feeds x piece (frames_of (f.held ++ piece)).0 (frames_of (f.held ++ piece)).1) (sym f.holds) (is_stream (f.held ++ piece)),
)

-- the messages that end in a piece
ending_is : (octets piece : List ℕ) (ms ns : List (List ℕ)) (framer after : Framing) → IsFramed octets ms framer → Feeds framer piece ns after
    → (ending_in octets piece ≡ ns) × ((frames_of (octets ++ piece)).1 ≡ after)
ending_is octets piece ms ns framer after f feeds =
    let front = framed_whole octets ms framer f in
    let both = frames_are (octets ++ piece) (ms ++ ns) after (fed octets piece ms ns framer after f feeds) in
    (ap (drop (length (frames_of octets).0)) both.0 ∙ drop_at ms ns (length (frames_of octets).0) (ap (λ (l : List (List ℕ)). length l) (sym front.0)), both.1)

-- memory that a framer wants for part of a message
pub wanted_by : (octets piece : List ℕ) (ms : List (List ℕ)) (framer : Framing) → IsFramed octets ms framer
    → ((frames : List (List ℕ)) (after : Framing) → Feeds framer piece frames after → (HoldsPart framer × (0 < length frames)) ⊎ HoldsPart after) → BringMore octets piece
wanted_by octets piece ms framer f needed =
    let feed = some_feed octets piece ms framer f in
    go feed.0 feed.1 feed.2 (needed feed.0 feed.1 feed.2)
  where
    front : (frames_of octets).1 ≡ framer
    front = (framed_whole octets ms framer f).1

    go : (ns : List (List ℕ)) (after : Framing) → Feeds framer piece ns after → (HoldsPart framer × (0 < length ns)) ⊎ HoldsPart after → BringMore octets piece
    go ns after feeds (inl both) =
        let is = ending_is octets piece ms ns framer after f feeds in
        inl (inl (subst (λ x. HoldsPart x) (sym front) both.0, subst (λ (l : List (List ℕ)). 0 < length l) (sym is.0) both.1))
    go ns after feeds (inr part) = inl (inr (subst (λ x. HoldsPart x) (sym (ending_is octets piece ms ns framer after f feeds).1) part))

-- memory that is wanted for the domain of a message
pub brought_by : (octets piece : List ℕ) (ms ns : List (List ℕ)) (framer after : Framing) → IsFramed octets ms framer → Feeds framer piece ns after → BringDomain ms ns → BringMore octets piece
brought_by octets piece ms ns framer after f feeds first =
    let front = framed_whole octets ms framer f in
    let is = ending_is octets piece ms ns framer after f feeds in
    inr (subst (λ (l : List (List ℕ)). BringDomain l (ending_in octets piece)) (sym front.0) (subst (λ (l : List (List ℕ)). BringDomain ms l) (sym is.0) first))

-- memory that the first reading wants for a piece
pub wants_memory : (octets front piece rest : List ℕ) (ms : List (List ℕ)) (framer : Framing) (s : Survey) (left : Option (List ℕ)) → IsFramed front ms framer → Surveys ms s
    → octets ≡ (front ++ piece) ++ rest → left ≡ Some rest → length piece ≤ read_size → BringMore front piece → WantsMemory octets left
wants_memory octets front piece rest ms framer s left f h all behind short more =
    let same = framed_whole front ms framer f in
    record {
      front = front;
      piece = piece;
      rest = rest;
      read = all;
      behind = behind;
      short = short;
      right = ap fault_of (same.1 ∙ f.holds);
      few = subst (λ (l : List (List ℕ)). length (domains_of l) ≤ most_domains) (sym same.0) h.few;
      brought = more;
    }
