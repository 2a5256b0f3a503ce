-- The keys of a table, by its entries.
use Rattle.std.proofs.Common.{Bool, ap, ◌≡◌, ◌&&◌, List, [], ◌∷◌, String, Global, string_bytes, refl}
use Rattle.std.specs.List.{list_all, list_any}
use Rattle.std.specs.Map.{keys_of}
use Rattle.std.specs.Str.{bytes_eq}
use Rattle.toml.specs.View.{members_view}
use Rattle.toml.specs.declared.value.Value.{Value}
use Rattle.tca_accounts.specs.declared.key.Key.{Key}
use Rattle.tca_accounts.specs.Documents.{has_only, key_name}

-- a name is that of one of the keys
abbrev pub known : List Key → String Global → Bool
known keys name = list_any (λ k. bytes_eq (key_name k) (string_bytes name)) keys

pub has_only-names : (keys : List Key) (es : List (String Global × Value)) → has_only keys (members_view es) ≡ list_all (known keys) (keys_of es)
has_only-names keys [] = refl
has_only-names keys (e ∷ es) = ap (λ b. known keys e.0 && b) (has_only-names keys es)
