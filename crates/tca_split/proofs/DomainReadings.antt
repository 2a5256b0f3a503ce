-- A message in a session that knows the templates of its domain alone.
use Rattle.std.proofs.Common.{◌≡◌, ℕ, Bool, false, List, [], ◌∷◌, ap, ◌∙◌}
use Rattle.std.specs.Prelude.{◌==◌}
use Rattle.tca_wire.specs.declared.message.SetSpan.{SetSpan}
use Rattle.tca_templates.specs.declared.source.Source.{Source}
use Rattle.tca_templates.specs.Templates.{Templates}
use Rattle.tca_templates.specs.Reading.{ReadMessage, body_of, before}
use Rattle.tca_templates.specs.TemplateSets.{IsTemplateSet}
use Rattle.tca_templates.specs.Sessions.{IsSet, TemplateSet, OptionsTemplateSet, Skipped, DataSet, Unplaced, Unread, AreSets, IsReading}
use Rattle.tca_split.proofs.DomainTemplates.{templates_in, known_in, changes_in}

-- what has come of a message, with the templates of one domain alone
abbrev pub kept : ℕ → ReadMessage → ReadMessage
kept d given = record given { templates = templates_in d given.templates }

template_set_in : (d : ℕ) (options : Bool) (ts us : Templates) (octets : List ℕ) → IsTemplateSet d options ts us octets → IsTemplateSet d options (templates_in d ts) (templates_in d us) octets
template_set_in d options ts us octets p = record {
  changes = p.changes;
  records = p.records;
  padding = p.padding;
  whole = p.whole;
  each = p.each;
  few = p.few;
  effect = (changes_in d options p.changes ts us p.effect).own;
}

set_in : (h : Source) (octets : List ℕ) (given after : ReadMessage) (s : SetSpan) → IsSet h octets given after s → IsSet h octets (kept h.domain given) (kept h.domain after) s
set_in h octets given after s (TemplateSet two ts p is) =
    TemplateSet two (templates_in h.domain ts) (template_set_in h.domain _ given.templates ts (body_of octets s) p) (ap (kept h.domain) is)
set_in h octets given after s (OptionsTemplateSet three ts p is) =
    OptionsTemplateSet three (templates_in h.domain ts) (template_set_in h.domain _ given.templates ts (body_of octets s) p) (ap (kept h.domain) is)
set_in h octets given after s (Skipped small not2 not3 is) = Skipped small not2 not3 (ap (kept h.domain) is)
set_in h octets given after s (DataSet least none t k records p is) =
    DataSet least none t (known_in h.domain s.id given.templates ∙ k) records p (ap (kept h.domain) is)
set_in h octets given after s (Unplaced least none k is) = Unplaced least none (known_in h.domain s.id given.templates ∙ k) (ap (kept h.domain) is)
set_in h octets given after s (Unread least id u is) = Unread least id u (ap (kept h.domain) is)

sets_in : (h : Source) (octets : List ℕ) (given : ReadMessage) (ss : List SetSpan) (after : ReadMessage) → AreSets h octets given ss after → AreSets h octets (kept h.domain given) ss (kept h.domain after)
sets_in h octets given [] after p = ap (kept h.domain) p
sets_in h octets given (s ∷ ss) after p = record {
  next = kept h.domain p.next;
  first = set_in h octets given p.next s p.first;
  others = sets_in h octets p.next ss after p.others;
}

-- what comes of it is the same, and the templates of the domain
pub reading_in : (ts : Templates) (h : Source) (octets : List ℕ) (ss : List SetSpan) (given : ReadMessage) → IsReading ts h octets ss given → IsReading (templates_in h.domain ts) h octets ss (kept h.domain given)
reading_in ts h octets ss given p = sets_in h octets (before ts) ss given p

set_out : (e : ℕ) (h : Source) (octets : List ℕ) (given after : ReadMessage) (s : SetSpan) → (e == h.domain) ≡ false → IsSet h octets given after s → templates_in e after.templates ≡ templates_in e given.templates
set_out e h octets given after s ne (TemplateSet two ts p is) =
    ap (λ (x : ReadMessage). templates_in e x.templates) is ∙ (changes_in h.domain _ p.changes given.templates ts p.effect).others e ne
set_out e h octets given after s ne (OptionsTemplateSet three ts p is) =
    ap (λ (x : ReadMessage). templates_in e x.templates) is ∙ (changes_in h.domain _ p.changes given.templates ts p.effect).others e ne
set_out e h octets given after s ne (Skipped small not2 not3 is) = ap (λ (x : ReadMessage). templates_in e x.templates) is
set_out e h octets given after s ne (DataSet least none t k records p is) = ap (λ (x : ReadMessage). templates_in e x.templates) is
set_out e h octets given after s ne (Unplaced least none k is) = ap (λ (x : ReadMessage). templates_in e x.templates) is
set_out e h octets given after s ne (Unread least id u is) = ap (λ (x : ReadMessage). templates_in e x.templates) is

sets_out : (e : ℕ) (h : Source) (octets : List ℕ) (given : ReadMessage) (ss : List SetSpan) (after : ReadMessage) → (e == h.domain) ≡ false → AreSets h octets given ss after
    → templates_in e after.templates ≡ templates_in e given.templates
sets_out e h octets given [] after ne p = ap (λ (x : ReadMessage). templates_in e x.templates) p
sets_out e h octets given (s ∷ ss) after ne p = sets_out e h octets p.next ss after ne p.others ∙ set_out e h octets given p.next s ne p.first

-- it leaves the templates of other domains
pub reading_out : (e : ℕ) (ts : Templates) (h : Source) (octets : List ℕ) (ss : List SetSpan) (given : ReadMessage) → (e == h.domain) ≡ false → IsReading ts h octets ss given
    → templates_in e given.templates ≡ templates_in e ts
reading_out e ts h octets ss given ne p = sets_out e h octets (before ts) ss given ne p
