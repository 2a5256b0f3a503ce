-- What the code holds of templates and records, as the definitions see it. Cited by the code and its proofs.
use Rattle.std.specs.Prelude.{Bool, ◌==◌, ◌||◌, nat_le, List, map, Option, Result, Ok, Err, ⊤}
use Rattle.tca_wire.specs.Walks.{Front, Ends, Bad, Next}
use Rattle.tca_templates.specs.declared.template.Template.{Template}
use Rattle.tca_templates.specs.declared.specifiers.Change.{Change}
use Rattle.tca_templates.specs.declared.specifiers.Change.TheVariants as changes
use Rattle.tca_templates.specs.Templates.{Key, TemplateView, Templates}
use Rattle.tca_templates.specs.Specifiers.{ChangeView, AllGone, Gone, New, specs_in}
use Rattle.tca_wire.specs.declared.message.SetSpan.{SetSpan}

-- a template, without where it lies in memory
abbrev pub template_of : Template → TemplateView
template_of t = record { options = t.options; specs = t.specs.items }

abbrev pub entries_of : List (Key × Template) → Templates
entries_of = map (λ e. (e.0, template_of e.1))

-- the templates that are known, and those that were known before the message, where it may be refused
pub record SlotsView : Type 0 where
  pub known : List (Key × Template)
  pub before : Option (List (Key × Template))

abbrev pub templates_of : SlotsView → Templates
templates_of v = entries_of v.known

abbrev pub change_view : Change → ChangeView
change_view changes.AllGone = AllGone
change_view (changes.Gone id) = Gone id
change_view (changes.New id d) = New id (specs_in d.count d.octets.now)

-- what a call returned, as the view shows it
abbrev pub viewed : {X Y F : Type 0} → (X → Y) → Result X F → Result Y F
viewed view (Ok x) = Ok (view x)
viewed view (Err f) = Err f

-- a piece stands here that nothing is wrong with
abbrev pub IsSound : {S F : Type 0} → Front S F → Type 0
IsSound Ends = ⊥
IsSound (Bad f) = ⊥
IsSound (Next t n) = ⊤

abbrev pub is_template_set : SetSpan → Bool
is_template_set s = (s.id == 2) || (s.id == 3)

-- a set of templates or of data: the others are skipped
abbrev pub is_read : SetSpan → Bool
is_read s = is_template_set s || nat_le 256 s.id
