-- The templates of a session, in the order in which they were first seen (RFC 7011, section 8).
-- They belong to their session and observation domain alone.
use Rattle.std.specs.Prelude.{ℕ, List, [], ◌∷◌, Bool, not, ◌==◌, ◌+◌, ◌&&◌, if◌then◌else◌, map, filter, Option, Some, None}
use mathlib.Core.Bool.{beq}
use Rattle.tca_templates.specs.declared.template.FieldSpec.{FieldSpec}

-- the observation domain and the template's identifier
abbrev pub Key : Type 0
Key = ℕ × ℕ

abbrev pub same_key : Key → Key → Bool
same_key a b = (a.0 == b.0) && (a.1 == b.1)

-- what a template says of its records
pub record TemplateView : Type 0 where
  pub options : Bool
  pub specs : List FieldSpec

abbrev pub Templates : Type 0
Templates = List (Key × TemplateView)

-- An identifier is defined. The RFC leaves open what a new definition of a known identifier does: here it replaces
-- the old one, whichever kind either is, and keeps its place. A new identifier goes last.
unfoldable pub define : Key → TemplateView → Templates → Templates
define k t [] = (k, t) ∷ []
define k t (e ∷ es) = if same_key k e.0 then (e.0, t) ∷ es else e ∷ define k t es

-- An identifier is withdrawn (RFC 7011, section 8.1), whichever kind of set says so and whichever kind the template
-- is. A withdrawal of an unknown identifier does nothing. No place is kept, so that a later definition goes last.
unfoldable pub withdraw : Key → Templates → Templates
withdraw k [] = []
withdraw k (e ∷ es) = if same_key k e.0 then es else e ∷ withdraw k es

-- this template is of another domain or kind
abbrev pub stays : ℕ → Bool → Key × TemplateView → Bool
stays domain options e = not ((e.0.0 == domain) && beq e.1.options options)

-- All templates of one kind in one domain are withdrawn (RFC 7011, section 8.1): an options template set withdraws
-- no other templates than options templates, and a template set none of these.
abbrev pub withdraw_all : ℕ → Bool → Templates → Templates
withdraw_all domain options ts = filter (stays domain options) ts

-- the template of an identifier
unfoldable pub known : Key → Templates → Option TemplateView
known k [] = None
known k (e ∷ es) = if same_key k e.0 then Some e.1 else known k es

-- the octets that a field takes at least: one where its length stands before it (RFC 7011, section 7)
abbrev pub least_of : FieldSpec → ℕ
least_of s = if s.length == 65535 then 1 else s.length

-- the octets that a record has at least
abbrev pub shortest_of : List FieldSpec → ℕ
shortest_of [] = 0
shortest_of (s ∷ ss) = least_of s + shortest_of ss

-- A session: its number, and the templates that its messages defined.
pub record SessionView : Type 0 where
  pub number : ℕ
  pub templates : Templates

-- Of each template its observation domain, its identifier and whether it is an options template.
abbrev pub listed : Templates → List (ℕ × ℕ × Bool)
listed ts = map (λ e. (e.0.0, e.0.1, e.1.options)) ts
