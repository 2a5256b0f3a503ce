-- What the tables say of the fields that were chosen.
use Rattle.std.proofs.Common.{◌≡◌, ℕ, List, Option, Some, None, Result, Ok, refl, sym, ap, ◌∙◌}
use Rattle.std.specs.Prelude.{option_map, option_and_then, unwrap_or}
use Rattle.std.specs.Option.{option_or}
use Rattle.tca_templates.specs.Records.{FieldView}
use Rattle.tca_templates.specs.Chosen as fields
use Rattle.tca_templates.specs.Chosen.{first, choice}
use Rattle.tca_report.specs.input.Extract.{chosen, times, sizes, code_points, interfaces, time_value, size_value, code_point_value, unsigned, date_time_milliseconds, date_time_microseconds, date_time_nanoseconds, date_time_seconds, high_six_bits, header_in, time_in, section_in, octets_in, code_point_in, interface_in}
use Rattle.tca_report.specs.declared.input.extraction.NotReport.{NotReport}

pub time_chosen : (fs : List FieldView) → chosen times fs ≡ option_map (λ (x : ℕ × List ℕ). time_value x.0 x.1) (choice fields.times fs)
unfolding choice
time_chosen fs = go (first 323 fs) (first 324 fs) (first 325 fs) (first 322 fs)
  where
    go : (a b c d : Option (List ℕ))
        → option_or (option_map date_time_milliseconds a) (option_or (option_map date_time_microseconds b) (option_or (option_map date_time_nanoseconds c) (option_or (option_map date_time_seconds d) None)))
        ≡ option_map (λ (x : ℕ × List ℕ). time_value x.0 x.1) (option_or (option_map (λ v. (323, v)) a) (option_or (option_map (λ v. (324, v)) b) (option_or (option_map (λ v. (325, v)) c) (option_or (option_map (λ v. (322, v)) d) None))))
    go (Some v) b c d = refl
    go None (Some v) c d = refl
    go None None (Some v) d = refl
    go None None None (Some v) = refl
    go None None None None = refl

pub size_chosen : (fs : List FieldView) → chosen sizes fs ≡ option_map (λ (x : ℕ × List ℕ). size_value x.0 x.1) (choice fields.sizes fs)
unfolding choice
size_chosen fs = go (first 224 fs) (first 190 fs) (first 1 fs)
  where
    go : (a b c : Option (List ℕ))
        → option_or (option_map (unsigned 8) a) (option_or (option_map (unsigned 2) b) (option_or (option_map (unsigned 8) c) None))
        ≡ option_map (λ (x : ℕ × List ℕ). size_value x.0 x.1) (option_or (option_map (λ v. (224, v)) a) (option_or (option_map (λ v. (190, v)) b) (option_or (option_map (λ v. (1, v)) c) None)))
    go (Some v) b c = refl
    go None (Some v) c = refl
    go None None (Some v) = refl
    go None None None = refl

pub code_point_chosen : (fs : List FieldView) → chosen code_points fs ≡ option_map (λ (x : ℕ × List ℕ). code_point_value x.0 x.1) (choice fields.code_points fs)
unfolding choice
code_point_chosen fs = go (first 195 fs) (first 5 fs)
  where
    go : (a b : Option (List ℕ))
        → option_or (option_map (unsigned 1) a) (option_or (option_map high_six_bits b) None)
        ≡ option_map (λ (x : ℕ × List ℕ). code_point_value x.0 x.1) (option_or (option_map (λ v. (195, v)) a) (option_or (option_map (λ v. (5, v)) b) None))
    go (Some v) b = refl
    go None (Some v) = refl
    go None None = refl

pub interface_chosen : (fs : List FieldView) → chosen interfaces fs ≡ option_map (λ (x : ℕ × List ℕ). unsigned 4 x.1) (choice fields.interfaces fs)
unfolding choice
interface_chosen fs = go (first 10 fs)
  where
    go : (a : Option (List ℕ)) → option_or (option_map (unsigned 4) a) None ≡ option_map (λ (x : ℕ × List ℕ). unsigned 4 x.1) (option_or (option_map (λ v. (10, v)) a) None)
    go (Some v) = refl
    go None = refl

pub section_chosen : (fs : List FieldView) → first 313 fs ≡ option_map (λ (x : ℕ × List ℕ). x.1) (choice fields.sections fs)
unfolding choice
section_chosen fs = go (first 313 fs)
  where
    go : (a : Option (List ℕ)) → a ≡ option_map (λ (x : ℕ × List ℕ). x.1) (option_or (option_map (λ v. (313, v)) a) None)
    go (Some v) = refl
    go None = refl

-- what is told of each kind, where an element tells it and where none does
module _ (fs : List FieldView) where
  pub time_told : (o : Option (ℕ × List ℕ)) → o ≡ choice fields.times fs → option_map (λ (x : ℕ × List ℕ). time_value x.0 x.1) o ≡ time_in fs
  unfolding time_in
  time_told o e = ap (option_map (λ (x : ℕ × List ℕ). time_value x.0 x.1)) e ∙ sym (time_chosen fs)

  pub section_told : (o : Option (ℕ × List ℕ)) → o ≡ choice fields.sections fs → option_and_then header_in (option_map (λ (x : ℕ × List ℕ). x.1) o) ≡ section_in fs
  section_told o e = ap (λ (o : Option (ℕ × List ℕ)). option_and_then header_in (option_map (λ (x : ℕ × List ℕ). x.1) o)) e ∙ ap (option_and_then header_in) (sym (section_chosen fs))

  pub octets_told : (section : Option (ℕ × ℕ)) (o : Option (ℕ × List ℕ)) → o ≡ choice fields.sizes fs
      → option_or (option_map (λ (x : ℕ × List ℕ). size_value x.0 x.1) o) (option_map (λ x. Ok x.0) section) ≡ octets_in fs section
  unfolding octets_in
  octets_told section o e = ap (λ (r : Option (Result ℕ NotReport)). option_or r (option_map (λ x. Ok x.0) section)) (ap (option_map (λ (x : ℕ × List ℕ). size_value x.0 x.1)) e ∙ sym (size_chosen fs))

  pub code_point_told : (section : Option (ℕ × ℕ)) (o : Option (ℕ × List ℕ)) → o ≡ choice fields.code_points fs
      → unwrap_or (option_or (option_map (λ (x : ℕ × List ℕ). code_point_value x.0 x.1) o) (option_map (λ x. Ok x.1) section)) (Ok 0) ≡ code_point_in fs section
  unfolding code_point_in
  code_point_told section o e = ap (λ (r : Option (Result ℕ NotReport)). unwrap_or (option_or r (option_map (λ x. Ok x.1) section)) (Ok 0)) (ap (option_map (λ (x : ℕ × List ℕ). code_point_value x.0 x.1)) e ∙ sym (code_point_chosen fs))

  pub interface_told : (o : Option (ℕ × List ℕ)) → o ≡ choice fields.interfaces fs → unwrap_or (option_map (λ (x : ℕ × List ℕ). unsigned 4 x.1) o) (Ok 0) ≡ interface_in fs
  unfolding interface_in
  interface_told o e = ap (λ (r : Option (Result ℕ NotReport)). unwrap_or r (Ok 0)) (ap (option_map (λ (x : ℕ × List ℕ). unsigned 4 x.1)) e ∙ sym (interface_chosen fs))
