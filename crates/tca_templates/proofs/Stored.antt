-- The templates with their keys, and what they stand for.
use Rattle.std.proofs.Common.{◌≡◌, Bool, ℕ, List, [], ◌∷◌, length, true, false, cond, not, ◌&&◌, ◌==◌, refl, ap, ◌∙◌, arith, suc, Some}
use Rattle.std.proofs.lemmas.Bool.Decides.{nat_tests}
use Rattle.std.specs.Prelude.{filter, ◌≢◌}
use Rattle.std.specs.Option.{option_map}
use Rattle.std.specs.Map.{lookup}
use Rattle.indexmap.specs.IndexMap.{insert_entry, shift_remove_entry}
use Rattle.tca_templates.specs.Templates.{Key, Templates, listed, define, same_key, withdraw, known, stays}
use Rattle.tca_templates.specs.Fields.{template_of, entries_of}
use Rattle.tca_templates.specs.declared.template.Template.{Template}

pub templates-insert : (es : List (Key × Template)) (k : Key) (t : Template) → entries_of (insert_entry same_key es k t) ≡ define k (template_of t) (entries_of es)
unfolding define
templates-insert [] k t = refl
templates-insert (e ∷ es) k t = go (same_key k e.0) (templates-insert es k t)
  where
    go : (b : Bool) → entries_of (insert_entry same_key es k t) ≡ define k (template_of t) (entries_of es)
        → entries_of (cond b ((e.0, t) ∷ es) (e ∷ insert_entry same_key es k t))
        ≡ cond b ((e.0, template_of t) ∷ entries_of es) ((e.0, template_of e.1) ∷ define k (template_of t) (entries_of es))
    go true h = refl
    go false h = ap (λ ts. (e.0, template_of e.1) ∷ ts) h

pub templates-remove : (es : List (Key × Template)) (k : Key) → entries_of (shift_remove_entry (same_key k) es) ≡ withdraw k (entries_of es)
unfolding withdraw
templates-remove [] k = refl
templates-remove (e ∷ es) k = go (same_key k e.0) (templates-remove es k)
  where
    go : (b : Bool) → entries_of (shift_remove_entry (same_key k) es) ≡ withdraw k (entries_of es)
        → entries_of (cond b es (e ∷ shift_remove_entry (same_key k) es))
        ≡ cond b (entries_of es) ((e.0, template_of e.1) ∷ withdraw k (entries_of es))
    go true h = refl
    go false h = ap (λ ts. (e.0, template_of e.1) ∷ ts) h

pub templates-known : (es : List (Key × Template)) (k : Key) → known k (entries_of es) ≡ option_map template_of (lookup (same_key k) es)
unfolding known
templates-known [] k = refl
templates-known (e ∷ es) k = go (same_key k e.0) (templates-known es k)
  where
    go : (b : Bool) → known k (entries_of es) ≡ option_map template_of (lookup (same_key k) es)
        → cond b (Some (template_of e.1)) (known k (entries_of es)) ≡ option_map template_of (cond b (Some e.1) (lookup (same_key k) es))
    go true h = refl
    go false h = h

abbrev pub stays_there : ℕ → Bool → Key × Template → Bool
stays_there domain options e = stays domain options (e.0, template_of e.1)

-- a template of this domain and kind goes, and each other one stays
pub goes : (m n : ℕ) (b : Bool) → m ≡ n → b ≡ true → not ((m == n) && b) ≡ false
goes m n b e t =
    let same : (m == n) ≡ true = grind (arith, nat_tests) in
    ap (λ x. not (x && b)) same ∙ ap (λ x. not (true && x)) t

pub other_kind : (m n : ℕ) (b : Bool) → b ≡ false → not ((m == n) && b) ≡ true
other_kind m n b f = ap (λ x. not ((m == n) && x)) f ∙ neither (m == n)
  where
    neither : (x : Bool) → not (x && false) ≡ true
    neither true = refl
    neither false = refl

pub other_domain : (m n : ℕ) (b : Bool) → m ≢ n → not ((m == n) && b) ≡ true
other_domain m n b ne =
    let apart : (m == n) ≡ false = grind (arith, nat_tests) in
    ap (λ x. not (x && b)) apart

pub templates-filter : (es : List (Key × Template)) (domain : ℕ) (options : Bool)
    → entries_of (filter (stays_there domain options) es) ≡ filter (stays domain options) (entries_of es)
templates-filter [] domain options = refl
templates-filter (e ∷ es) domain options = go (stays_there domain options e) (templates-filter es domain options)
  where
    go : (b : Bool) → entries_of (filter (stays_there domain options) es) ≡ filter (stays domain options) (entries_of es)
        → entries_of (cond b (e ∷ filter (stays_there domain options) es) (filter (stays_there domain options) es))
        ≡ cond b ((e.0, template_of e.1) ∷ filter (stays domain options) (entries_of es)) (filter (stays domain options) (entries_of es))
    go true h = ap (λ ts. (e.0, template_of e.1) ∷ ts) h
    go false h = h

pub length-templates : (es : List (Key × Template)) → length (entries_of es) ≡ length es
length-templates [] = refl
length-templates (e ∷ es) = ap suc (length-templates es)

pub length-listed : (ts : Templates) → length (listed ts) ≡ length ts
length-listed [] = refl
length-listed (t ∷ ts) = ap suc (length-listed ts)
