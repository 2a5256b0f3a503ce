-- The fault that is found in a message is the first from the left, and the first from the left is found.
use Rattle.std.proofs.Common.{◌≡◌, ◌≢◌, ℕ, ◌+◌, ◌≤◌, true, false, List, [], ◌∷◌, ◌++◌, Option, Some, None, Result, Ok, Err, refl, sym, ap, ap₂, subst, ◌∙◌, arith, inl, inr}
use Rattle.std.specs.Prelude.{nat_lt, ◌==◌, IfErr}
use Rattle.std.proofs.lemmas.Bool.Decides.{nat_tests}
use Rattle.tca_join.specs.Results.{Gives, ◌>>=◌}
use Rattle.tca_wire.proofs.Walking.{gives_err}
use Rattle.tca_wire.specs.Walks.{walk}
use Rattle.tca_templates.specs.declared.source.Source.{Source}
use Rattle.tca_wire.specs.declared.message.SetSpan.{SetSpan}
use Rattle.tca_templates.specs.declared.fault.DecodeFault.{DecodeFault}
use Rattle.tca_templates.specs.Templates.{Templates, TemplateView, known}
use Rattle.tca_templates.specs.Records.{PlacedView, data_front}
use Rattle.tca_templates.specs.Reading.{ReadMessage, with_templates, with_records, body_of, data_of, set_of, sets_on, before, read_of}
use Rattle.tca_templates.specs.Sessions.{HaveOctets, AreSets}
use Rattle.tca_templates.specs.FirstFaults.{IsFaultySet, TemplateSet, OptionsTemplateSet, DataSet, IsFirstFault}
use Rattle.tca_templates.proofs.Choices.{chosen, no_fault}
use Rattle.tca_templates.proofs.TemplateSetFaults.{template_set_fault, template_set_no_other}
use Rattle.tca_templates.proofs.DataSetFaults.{data_set_fault, data_set_no_other}
use Rattle.tca_templates.proofs.SessionLaws.{known_has, set_found, set_only}

templates_refused : (given : ReadMessage) (r : Result Templates DecodeFault) (fault : DecodeFault) → with_templates given r ≡ Err fault → r ≡ Err fault
templates_refused given (Ok ts) fault e = absurd cc
templates_refused given (Err f) fault e = let same : f ≡ fault = cc in ap (λ (x : DecodeFault). Err x) same

records_refused : (given : ReadMessage) (r : Result (List PlacedView) DecodeFault) (fault : DecodeFault) → with_records given r ≡ Err fault → r ≡ Err fault
records_refused given (Ok rs) fault e = absurd cc
records_refused given (Err f) fault e = let same : f ≡ fault = cc in ap (λ (x : DecodeFault). Err x) same

data_fault : (h : Source) (octets : List ℕ) (given : ReadMessage) (s : SetSpan) (fault : DecodeFault) → HaveOctets given.templates → 256 ≤ s.id
    → (u : Option ℕ) → given.unplaced ≡ u → (o : Option TemplateView) → known (h.domain, s.id) given.templates ≡ o
    → data_of h octets s given u o ≡ Err fault → IsFaultySet h octets given s fault
data_fault h octets given s fault all least (Some id) u o k e = absurd cc
data_fault h octets given s fault all least None u None k e = absurd cc
data_fault h octets given s fault all least None u (Some t) k e =
    let some = known_has (h.domain, s.id) given.templates t all k in
    let refused = records_refused given (walk (data_front h t) given.records (s.at + 4) (body_of octets s)) fault e in
    DataSet least u t k (data_set_fault h t some given.records (s.at + 4) (body_of octets s) fault refused)

set_fault : (h : Source) (octets : List ℕ) (given : ReadMessage) (s : SetSpan) (fault : DecodeFault)
    → HaveOctets given.templates → set_of h octets given s ≡ Err fault → IsFaultySet h octets given s fault
unfolding set_of
set_fault h octets given s fault all e = elim (chosen (s.id == 2) _ _ (Err fault) e) [
  | inl w ↦
      let two : s.id ≡ 2 = grind (arith, nat_tests, w.0) in
      TemplateSet two (template_set_fault h.domain false given.templates (s.at + 4) (body_of octets s) fault (templates_refused given _ fault w.1))
  | inr v ↦ elim (chosen (s.id == 3) _ _ (Err fault) v.1) [
    | inl w ↦
        let three : s.id ≡ 3 = grind (arith, nat_tests, w.0) in
        OptionsTemplateSet three (template_set_fault h.domain true given.templates (s.at + 4) (body_of octets s) fault (templates_refused given _ fault w.1))
    | inr u ↦ elim (chosen (nat_lt s.id 256) (Ok (record given { skipped = given.skipped + 1 })) _ (Err fault) u.1) [
      | inl w ↦ absurd (no_fault _ fault w.1)
      | inr w ↦
          let least : 256 ≤ s.id = grind (arith, nat_tests, w.0) in
          data_fault h octets given s fault all least given.unplaced refl (known (h.domain, s.id) given.templates) refl w.1
    ]
  ]
]

-- sets that were read, and the first behind them that is wrong
record HasFault (h : Source) (octets : List ℕ) (given : ReadMessage) (sets : List SetSpan) (fault : DecodeFault) : Type 0 where
  front : List SetSpan
  set : SetSpan
  behind : List SetSpan
  now : ReadMessage
  whole : sets ≡ front ++ set ∷ behind
  are : AreSets h octets given front now
  wrong : IsFaultySet h octets now set fault

sets_fault : (h : Source) (octets : List ℕ) (given : ReadMessage) (ss : List SetSpan) (fault : DecodeFault) → HaveOctets given.templates → sets_on h octets given ss ≡ Err fault
    → HasFault h octets given ss fault
unfolding sets_on
sets_fault h octets given [] fault all e = absurd (no_fault given fault e)
sets_fault h octets given (s ∷ ss) fault all e = go (λ next have k. sets_fault h octets next ss fault have k) (set_of h octets given s) refl e
  where
    go : ((next : ReadMessage) → HaveOctets next.templates → sets_on h octets next ss ≡ Err fault → HasFault h octets next ss fault)
        → (r : Result ReadMessage DecodeFault) → set_of h octets given s ≡ r → (r >>= (λ more. sets_on h octets more ss)) ≡ Err fault
        → HasFault h octets given (s ∷ ss) fault
    go more (Err f) k e =
        let same : f ≡ fault = cc in
        let wrong = subst (λ (g : DecodeFault). IsFaultySet h octets given s g) same (set_fault h octets given s f all k) in
        record { front = []; set = s; behind = ss; now = given; whole = refl; are = refl; wrong = wrong }
    go more (Ok next) k e =
        let f = set_found h octets given next s all k in
        let r = more next f.have e in
        record {
          front = s ∷ r.front;
          set = r.set;
          behind = r.behind;
          now = r.now;
          whole = ap (λ (l : List SetSpan). s ∷ l) r.whole;
          are = record { next = next; first = f.set; others = r.are };
          wrong = r.wrong;
        }

pub reading_fault : (ts : Templates) (h : Source) (octets : List ℕ) (ss : List SetSpan) (f : DecodeFault) → HaveOctets ts
    → read_of ts h octets ss ≡ Err f → IsFirstFault ts h octets ss f
reading_fault ts h octets ss f all e =
    let r = sets_fault h octets (before ts) ss f all e in
    record { before = r.front; set = r.set; behind = r.behind; given = r.now; whole = r.whole; read = r.are; wrong = r.wrong }

set_refused : (h : Source) (octets : List ℕ) (given : ReadMessage) (s : SetSpan) (fault : DecodeFault)
    → HaveOctets given.templates → IsFaultySet h octets given s fault → set_of h octets given s ≡ Err fault
unfolding set_of
set_refused h octets given s fault all (TemplateSet two p) =
    let t1 : (s.id == 2) ≡ true = grind (arith, nat_tests, two) in
    rw t1 (ap (with_templates given) (template_set_no_other h.domain false given.templates (s.at + 4) (body_of octets s) fault p))
set_refused h octets given s fault all (OptionsTemplateSet three p) =
    let t1 : (s.id == 2) ≡ false = grind (arith, nat_tests, three) in
    let t2 : (s.id == 3) ≡ true = grind (arith, nat_tests, three) in
    rw (t1, t2) (ap (with_templates given) (template_set_no_other h.domain true given.templates (s.at + 4) (body_of octets s) fault p))
set_refused h octets given s fault all (DataSet least none t k p) =
    let t1 : (s.id == 2) ≡ false = grind (arith, nat_tests, least) in
    let t2 : (s.id == 3) ≡ false = grind (arith, nat_tests, least) in
    let t3 : nat_lt s.id 256 ≡ false = grind (arith, nat_tests, least) in
    let some = known_has (h.domain, s.id) given.templates t all k in
    rw (t1, t2, t3) (ap₂ (λ u o. data_of h octets s given u o) none k ∙ ap (with_records given) (data_set_no_other h t some given.records (s.at + 4) (body_of octets s) fault p))

-- what is read of the sets in front
sets_pass : (h : Source) (octets : List ℕ) (given : ReadMessage) (front rest : List SetSpan) (now : ReadMessage) → AreSets h octets given front now
    → sets_on h octets given (front ++ rest) ≡ sets_on h octets now rest
unfolding sets_on
sets_pass h octets given [] rest now p = ap (λ (x : ReadMessage). sets_on h octets x rest) (sym p)
sets_pass h octets given (s ∷ front) rest now p =
    ap (λ (x : Result ReadMessage DecodeFault). x >>= (λ more. sets_on h octets more (front ++ rest))) (set_only h octets given p.next s p.first) ∙ sets_pass h octets p.next front rest now p.others

sets_have : (h : Source) (octets : List ℕ) (given : ReadMessage) (front : List SetSpan) (now : ReadMessage)
    → AreSets h octets given front now → HaveOctets given.templates → HaveOctets now.templates
sets_have h octets given [] now p all = subst (λ (x : ReadMessage). HaveOctets x.templates) (sym p) all
sets_have h octets given (s ∷ front) now p all =
    sets_have h octets p.next front now p.others (set_found h octets given p.next s all (set_only h octets given p.next s p.first)).have

sets_stop : (h : Source) (octets : List ℕ) (given : ReadMessage) (s : SetSpan) (behind : List SetSpan) (fault : DecodeFault) → set_of h octets given s ≡ Err fault
    → sets_on h octets given (s ∷ behind) ≡ Err fault
unfolding sets_on
sets_stop h octets given s behind fault e = ap (λ (x : Result ReadMessage DecodeFault). x >>= (λ more. sets_on h octets more behind)) e

pub reading_no_other : (ts : Templates) (h : Source) (octets : List ℕ) (ss : List SetSpan) (f : DecodeFault) → HaveOctets ts
    → IsFirstFault ts h octets ss f → read_of ts h octets ss ≡ Err f
reading_no_other ts h octets ss f all p =
    let have = sets_have h octets (before ts) p.before p.given p.read all in
    ap (λ (l : List SetSpan). read_of ts h octets l) p.whole ∙ sets_pass h octets (before ts) p.before (p.set ∷ p.behind) p.given p.read
    ∙ sets_stop h octets p.given p.set p.behind f (set_refused h octets p.given p.set f have p.wrong)

-- the fault that a call returned, where it gives what the definition gives
pub reading_refused : {X : Type 0} (memory : DecodeFault) (view : X → ReadMessage) (r : Result X DecodeFault) (ts : Templates) (h : Source) (octets : List ℕ) (ss : List SetSpan)
    → HaveOctets ts → Gives memory view r (read_of ts h octets ss) → IfErr r (λ f. f ≢ memory → IsFirstFault ts h octets ss f)
reading_refused memory view r ts h octets ss all g =
    gives_err memory view (λ (f : DecodeFault). IsFirstFault ts h octets ss f) r (read_of ts h octets ss) (λ f e. reading_fault ts h octets ss f all e) g
