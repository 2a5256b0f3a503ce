-- One record more that a taker holds.
use Rattle.std.proofs.Common.{◌≡◌, ℕ, suc, ◌+◌, ◌%◌, ◌<◌, ◌≤◌, List, [], ◌∷◌, ◌++◌, length, drop, Some, None, Result, Bool, refl, subst, sym, ap, ap₂, ◌∙◌, arith, length-append}
use Rattle.tca_wire.specs.Walks.{walk, Next}
use Rattle.tca_templates.specs.declared.source.Source.{Source}
use Rattle.tca_templates.specs.declared.fault.DecodeFault.{DecodeFault}
use Rattle.tca_templates.specs.Templates.{TemplateView, shortest_of}
use Rattle.tca_templates.specs.Records.{PlacedView, fields_on, placed, data_front}
use Rattle.tca_wire.specs.declared.message.SetSpan.{SetSpan}
use Rattle.tca_templates.specs.Templates.{Templates}
use Rattle.tca_templates.specs.Specifiers.{template_front}
use Rattle.tca_templates.specs.Reading.{ReadMessage, with_templates, with_records, body_of, set_of}
use Rattle.tca_templates.specs.inside.Layouts.{fields_in}
use Rattle.tca_templates.specs.Taking.{Took}
use Rattle.tca_templates.specs.Wants.{Leads, IsWanted}
use Rattle.tca_templates.specs.Refusals.{IsStop, HoldsRecords}
use Rattle.tca_templates.specs.declared.fault.DecodeFault.TheVariants.{Memory, RecordCut}
use Rattle.tca_templates.proofs.Records.{data_next, front_next, front_sound, front_bad}
use Rattle.tca_templates.proofs.Wanting.{leads_more}

-- The taker holds some records, behind which the rest leads to the same end.
pub record Walked {T : Type 0} (took : T → List PlacedView → T → Type 0) (h : Source) (t : TemplateView) (start now : T) (count at : ℕ) (rest : List ℕ) (first : List PlacedView) (from : ℕ) (octets : List ℕ) : Type 0 where
  pub all : List PlacedView
  pub pieces : ℕ
  pub leads : Leads (data_front h t) pieces first from octets all at rest
  pub same : walk (data_front h t) all at rest ≡ walk (data_front h t) first from octets
  pub holds : took start all now
  pub counted : length all ≡ count

-- the record at the front, when so many stand before it
abbrev pub next_record : Source → TemplateView → ℕ → List ℕ → PlacedView
next_record h t count octets = record { session = h.session; domain = h.domain; place = (h.sequence + count) % 4294967296; options = t.options; fields = fields_in t.specs octets }

pub walked_more : {T : Type 0} (took : T → List PlacedView → T → Type 0) (h : Source) (t : TemplateView) (start now next : T) (count at n : ℕ) (rest : List ℕ) (first : List PlacedView) (from : ℕ) (octets : List ℕ)
    → 0 < shortest_of t.specs → (w : Walked took h t start now count at rest first from octets) → shortest_of t.specs ≤ length rest → fields_on [] 0 t.specs rest ≡ Some (fields_in t.specs rest, n)
    → took start (w.all ++ next_record h t count rest ∷ []) next → Walked took h t start next (count + 1) (at + n) (drop n rest) first from octets
walked_more took h t start now next count at n rest first from octets some w le read taken =
    let own = fields_in t.specs rest in
    let place : placed h t.options w.all own ≡ next_record h t count rest =
    ap (λ (m : ℕ). record { session = h.session; domain = h.domain; place = (h.sequence + m) % 4294967296; options = t.options; fields = own }) w.counted in
    record {
      all = w.all ++ next_record h t count rest ∷ [];
      pieces = suc w.pieces;
      leads = leads_more (data_front h t) w.pieces first w.all (w.all ++ next_record h t count rest ∷ []) from at n octets rest w.leads
          (front_next h t w.all at rest own n le read ∙ ap (λ (r : PlacedView). Next (w.all ++ r ∷ []) n) place);
      same = ap (λ (r : PlacedView). walk (data_front h t) (w.all ++ r ∷ []) (at + n) (drop n rest)) (sym place) ∙ sym (data_next h t some w.all at rest own n le read) ∙ w.same;
      holds = taken;
      counted = omega (arith, w.counted, length-append w.all (next_record h t count rest ∷ []));
    }

-- memory is wanted for the record at the front
pub walked_wants : {T : Type 0} (took : T → List PlacedView → T → Type 0) (h : Source) (t : TemplateView) (start now : T) (count at n : ℕ) (rest : List ℕ) (first : List PlacedView) (from : ℕ) (octets : List ℕ)
    → Walked took h t start now count at rest first from octets → shortest_of t.specs ≤ length rest → fields_on [] 0 t.specs rest ≡ Some (fields_in t.specs rest, n)
    → IsWanted (data_front h t) first from octets
walked_wants took h t start now count at n rest first from octets w le read = record {
  pieces = w.pieces;
  come = w.all;
  there = at;
  rest = rest;
  leads = w.leads;
  sound = front_sound h t w.all at rest (fields_in t.specs rest) n le read;
}

-- the taker holds what it held where the record at the front is refused
pub walked_stops : {T : Type 0} (took : T → List PlacedView → T → Type 0) (h : Source) (t : TemplateView) (start now next : T) (count at : ℕ) (rest : List ℕ) (first : List PlacedView) (from : ℕ) (octets : List ℕ) (fault : DecodeFault)
    → (w : Walked took h t start now count at rest first from octets) → took start w.all next → IsStop Memory fault (data_front h t w.all at rest) → HoldsRecords took start next h t fault first from octets
walked_stops took h t start now next count at rest first from octets fault w held stop = record {
  records = w.all;
  stops = record { pieces = w.pieces; there = at; rest = rest; leads = w.leads; stop = stop };
  held = held;
}

-- memory is wanted for the record at the front, which the taker hasn't taken
pub walked_full : {T : Type 0} (took : T → List PlacedView → T → Type 0) (h : Source) (t : TemplateView) (start now next : T) (count at n : ℕ) (rest : List ℕ) (first : List PlacedView) (from : ℕ) (octets : List ℕ)
    → (w : Walked took h t start now count at rest first from octets) → shortest_of t.specs ≤ length rest → fields_on [] 0 t.specs rest ≡ Some (fields_in t.specs rest, n)
    → took start w.all next → HoldsRecords took start next h t Memory first from octets
walked_full took h t start now next count at n rest first from octets w le read held =
    walked_stops took h t start now next count at rest first from octets Memory w held
    (subst (λ f. IsStop Memory Memory f) (sym (front_next h t w.all at rest (fields_in t.specs rest) n le read)) refl)

-- the record at the front is cut
pub walked_cut : {T : Type 0} (took : T → List PlacedView → T → Type 0) (h : Source) (t : TemplateView) (start now : T) (count at : ℕ) (rest : List ℕ) (first : List PlacedView) (from : ℕ) (octets : List ℕ)
    → Walked took h t start now count at rest first from octets → shortest_of t.specs ≤ length rest → fields_on [] 0 t.specs rest ≡ None
    → HoldsRecords took start now h t (RecordCut at) first from octets
walked_cut took h t start now count at rest first from octets w le none =
    walked_stops took h t start now now count at rest first from octets (RecordCut at) w w.holds
    (subst (λ f. IsStop Memory (RecordCut at) f) (sym (front_bad h t w.all at rest le none)) refl)

pub walked_first : {T : Type 0} (took : T → List PlacedView → T → Type 0) (h : Source) (t : TemplateView) (start now : T) (count at : ℕ) (rest : List ℕ) (records : List PlacedView)
    → Took took start now count records → Walked took h t start now count at rest records at rest
walked_first took h t start now count at rest records taken = record { all = records; pieces = 0; leads = (refl, refl, refl); same = refl; holds = taken.0; counted = taken.1 }

-- a set of templates, when these are known
pub set_changes : (h : Source) (octets : List ℕ) (given : ReadMessage) (s : SetSpan) (options : Bool) (ts : Templates) (body : List ℕ) (r : Result Templates DecodeFault)
    → set_of h octets given s ≡ with_templates given (walk (template_front h.domain options) given.templates (s.at + 4) (body_of octets s))
    → given.templates ≡ ts → body ≡ body_of octets s → walk (template_front h.domain options) ts (s.at + 4) body ≡ r → set_of h octets given s ≡ with_templates given r
set_changes h octets given s options ts body r is known here found =
    is
    ∙ ap₂ (λ (us : Templates) (b : List ℕ). with_templates given (walk (template_front h.domain options) us (s.at + 4) b)) known (sym here)
    ∙ ap (with_templates given) found

-- a set of records
pub set_records : (h : Source) (octets : List ℕ) (given : ReadMessage) (s : SetSpan) (t : TemplateView) (body : List ℕ) (r : Result (List PlacedView) DecodeFault)
    → set_of h octets given s ≡ with_records given (walk (data_front h t) given.records (s.at + 4) (body_of octets s))
    → body ≡ body_of octets s → walk (data_front h t) given.records (s.at + 4) body ≡ r → set_of h octets given s ≡ with_records given r
set_records h octets given s t body r is here found =
    is
    ∙ ap (λ (b : List ℕ). with_records given (walk (data_front h t) given.records (s.at + 4) b)) (sym here)
    ∙ ap (with_records given) found
