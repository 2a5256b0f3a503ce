-- The plan that a TOML document is, or its first fault.
use Rattle.std.specs.Prelude.{ℕ, ◌^◌, ◌+◌, ◌-◌, suc, pos, Bool, true, false, ◌&&◌, List, [], ◌∷◌, length, Option, Some, None, Result, Ok, Err, codes, nat_le, if◌then◌else◌, ◌≡◌, IsUtf8}
use Rattle.std.specs.List.{list_any}
use Rattle.std.specs.Str.{bytes_eq}
use Rattle.toml.specs.Parse.{parse_document}
use Rattle.toml.specs.Data.{Data, Items, Members, array, boolean, get_member, integer, item, member, no_items, no_members, string, table}
use Rattle.tca_join.specs.Results.{◌>>=◌}
use Rattle.tca_meters.specs.declared.any_meter.AnyMeter.{AnyMeter}
use Rattle.tca_meters.specs.declared.any_meter.AnyMeter.TheVariants.{SrTcm, TrTcm, Rfc4115}
use Rattle.tca_meters.specs.declared.colour.Colour.{Colour}
use Rattle.tca_meters.specs.declared.colour.Colour.TheVariants.{Green, Yellow, Red}
use Rattle.tca_meters.specs.declared.fault.MeterFault.{MeterFault}
use Rattle.tca_meters.specs.MeterSpecs.{as_any}
use Rattle.tca_meters.specs.SrTcm.{srtcm_of}
use Rattle.tca_meters.specs.TrTcm.{trtcm_of}
use Rattle.tca_meters.specs.Rfc4115.{rfc4115_of}
use Rattle.tca_meters.specs.Termed.{TermedMeter, most_terms}
use Rattle.tca_accounts.specs.Plans.{AccountPlan, PlannedAccount, all_pairs, are_distinct, is_name, most_accounts, most_pairs}
use Rattle.tca_accounts.specs.declared.key.Key.{Key}
use Rattle.tca_accounts.specs.declared.key.Key.TheVariants as key
use Rattle.tca_accounts.specs.declared.kind.Kind.{Kind}
use Rattle.tca_accounts.specs.declared.kind.Kind.TheVariants as kind
use Rattle.tca_accounts.specs.declared.fault.PlanFault.{PlanFault}
use Rattle.tca_accounts.specs.declared.fault.PlanFault.TheVariants as fault
use Rattle.tca_report.specs.report.Reports.{time_end}

-- what has to hold, else there is this fault
abbrev pub only_if : Bool → PlanFault → Result Unit PlanFault
only_if holds e = if holds then Ok tt else Err e

-- a key as TOML writes it
abbrev pub key_name : Key → List ℕ
key_name key.Period = codes "period"
key_name key.Account = codes "account"
key_name key.Meter = codes "meter"
key_name key.Name = codes "name"
key_name key.Aware = codes "aware"
key_name key.Other = codes "other"
key_name key.ExactFit = codes "exact_fit"
key_name key.Cir = codes "cir"
key_name key.Cbs = codes "cbs"
key_name key.Ebs = codes "ebs"
key_name key.Pir = codes "pir"
key_name key.Pbs = codes "pbs"
key_name key.Eir = codes "eir"
key_name key.Keys = codes "keys"
key_name key.Term = codes "term"
key_name key.From = codes "from"

-- what a table has at a key
abbrev pub at : Key → Members → Option Data
at k ms = get_member (key_name k) ms

-- each key of a table is one of these
abbrev pub has_only : List Key → Members → Bool
has_only keys no_members = true
has_only keys (member name value ms) = list_any (λ k. bytes_eq (key_name k) name) keys && has_only keys ms

-- an integer within bounds
abbrev pub whole_of : Key → ℕ → ℕ → Option Data → Result ℕ PlanFault
whole_of k least most None = Err (fault.Missing k)
whole_of k least most (Some (integer (pos n))) = if nat_le least n && nat_le n most then Ok n else Err (fault.Wrong k)
whole_of k least most (Some d) = Err (fault.Wrong k)

-- a truth value
abbrev pub truth_of : Key → Option Data → Result Bool PlanFault
truth_of k None = Err (fault.Missing k)
truth_of k (Some (boolean b)) = Ok b
truth_of k (Some d) = Err (fault.Wrong k)

-- a truth value that is false where it is left out
abbrev pub truth_or_false : Key → Option Data → Result Bool PlanFault
truth_or_false k None = Ok false
truth_or_false k (Some d) = truth_of k (Some d)

-- a text
abbrev pub text_of : Key → Option Data → Result (List ℕ) PlanFault
text_of k None = Err (fault.Missing k)
text_of k (Some (string s)) = Ok s
text_of k (Some d) = Err (fault.Wrong k)

-- the elements of an array
abbrev pub items_of : Key → Option Data → Result Items PlanFault
items_of k None = Err (fault.Missing k)
items_of k (Some (array ds)) = Ok ds
items_of k (Some d) = Err (fault.Wrong k)

-- the kind of meter that a word names
abbrev pub kind_named : List ℕ → Result Kind PlanFault
kind_named word =
    if bytes_eq word (codes "rfc2697") then Ok kind.SrTcm
    else (if bytes_eq word (codes "rfc2698") then Ok kind.TrTcm
    else (if bytes_eq word (codes "rfc4115") then Ok kind.Rfc4115
    else Err (fault.Wrong key.Meter)))

-- the kind of an account's meter
abbrev pub kind_in : Members → Result Kind PlanFault
kind_in ms = text_of key.Meter (at key.Meter ms) >>= kind_named

-- an account's name
abbrev pub name_in : Members → Result (List ℕ) PlanFault
name_in ms = do
  text ← text_of key.Name (at key.Name ms)
  tell ← only_if (is_name text) (fault.Wrong key.Name)
  Ok text

-- the colour that a word names
abbrev pub colour_named : List ℕ → Result Colour PlanFault
colour_named word =
    if bytes_eq word (codes "green") then Ok Green
    else (if bytes_eq word (codes "yellow") then Ok Yellow
    else (if bytes_eq word (codes "red") then Ok Red
    else Err (fault.Wrong key.Other)))

-- the colour of the code points that have none of their own, green where it is left out
abbrev pub other_of : Option Data → Result Colour PlanFault
other_of None = Ok Green
other_of (Some d) = text_of key.Other (Some d) >>= colour_named

-- the keys of an account with a meter of this kind
abbrev pub keys_of : Kind → List Key
keys_of kind.SrTcm = key.Meter ∷ key.Name ∷ key.Aware ∷ key.Other ∷ key.Cir ∷ key.Cbs ∷ key.Ebs ∷ key.Keys ∷ key.Term ∷ []
keys_of kind.TrTcm = key.Meter ∷ key.Name ∷ key.Aware ∷ key.Other ∷ key.Cir ∷ key.Cbs ∷ key.Pir ∷ key.Pbs ∷ key.Keys ∷ key.Term ∷ []
keys_of kind.Rfc4115 = key.Meter ∷ key.Name ∷ key.Aware ∷ key.Other ∷ key.ExactFit ∷ key.Cir ∷ key.Cbs ∷ key.Ebs ∷ key.Eir ∷ key.Keys ∷ key.Term ∷ []

-- the keys of a term with a meter of this kind
abbrev pub term_keys_of : Kind → List Key
term_keys_of kind.SrTcm = key.Meter ∷ key.From ∷ key.Aware ∷ key.Cir ∷ key.Cbs ∷ key.Ebs ∷ []
term_keys_of kind.TrTcm = key.Meter ∷ key.From ∷ key.Aware ∷ key.Cir ∷ key.Cbs ∷ key.Pir ∷ key.Pbs ∷ []
term_keys_of kind.Rfc4115 = key.Meter ∷ key.From ∷ key.Aware ∷ key.ExactFit ∷ key.Cir ∷ key.Cbs ∷ key.Ebs ∷ key.Eir ∷ []

-- a rate or a burst size: an integer from 0 up
abbrev pub number_in : Key → Members → Result ℕ PlanFault
number_in k ms = whole_of k 0 (2 ^ 63 - 1) (at k ms)

-- a meter of RFC 2697, or why there is none of these parameters
abbrev pub srtcm_in : Bool → Members → Result (Result AnyMeter MeterFault) PlanFault
srtcm_in aware ms = do
  cir ← number_in key.Cir ms
  cbs ← number_in key.Cbs ms
  ebs ← number_in key.Ebs ms
  Ok (as_any SrTcm (srtcm_of cir cbs ebs aware))

-- a meter of RFC 2698, or why there is none of these parameters
abbrev pub trtcm_in : Bool → Members → Result (Result AnyMeter MeterFault) PlanFault
trtcm_in aware ms = do
  cir ← number_in key.Cir ms
  cbs ← number_in key.Cbs ms
  pir ← number_in key.Pir ms
  pbs ← number_in key.Pbs ms
  Ok (as_any TrTcm (trtcm_of pir pbs cir cbs aware))

-- a meter of RFC 4115, or why there is none of these parameters
abbrev pub rfc4115_in : Bool → Members → Result (Result AnyMeter MeterFault) PlanFault
rfc4115_in aware ms = do
  exact_fit ← truth_of key.ExactFit (at key.ExactFit ms)
  cir ← number_in key.Cir ms
  cbs ← number_in key.Cbs ms
  ebs ← number_in key.Ebs ms
  eir ← number_in key.Eir ms
  Ok (as_any Rfc4115 (rfc4115_of cir cbs eir ebs exact_fit aware))

-- a meter of a kind, or why there is none of its parameters
abbrev pub meter_in : Kind → Bool → Members → Result (Result AnyMeter MeterFault) PlanFault
meter_in kind.SrTcm = srtcm_in
meter_in kind.TrTcm = trtcm_in
meter_in kind.Rfc4115 = rfc4115_in

-- the number of an observation domain or an interface
abbrev pub part_of : Data → Result ℕ PlanFault
part_of d = whole_of key.Keys 0 (2 ^ 32 - 1) (Some d)

-- a pair is an array of two such numbers
abbrev pub pair_in : Data → Result (ℕ × ℕ) PlanFault
pair_in (array (item domain (item iface no_items))) = do
  first ← part_of domain
  second ← part_of iface
  Ok (first, second)
pair_in d = Err (fault.Wrong key.Keys)

-- pairs, one after the other
abbrev pub pairs_of : Items → Result (List (ℕ × ℕ)) PlanFault
pairs_of no_items = Ok []
pairs_of (item d ds) = do
  pair ← pair_in d
  others ← pairs_of ds
  Ok (pair ∷ others)

-- how many elements an array has
abbrev pub count_items : Items → ℕ
count_items no_items = 0
count_items (item d ds) = suc (count_items ds)

-- an account's pairs: one or more
abbrev pub pairs_in : Members → Result (List (ℕ × ℕ)) PlanFault
pairs_in ms = do
  items ← items_of key.Keys (at key.Keys ms)
  tell ← only_if (nat_le 1 (count_items items)) (fault.Wrong key.Keys)
  pairs_of items

-- the meter of account n, or of one of its terms
abbrev pub judged : ℕ → Result AnyMeter MeterFault → Result AnyMeter PlanFault
judged n (Ok meter) = Ok meter
judged n (Err e) = Err (fault.Meter n e)

-- the members of a table, which stands in the array at a key
abbrev pub members_of : Key → Data → Result Members PlanFault
members_of k (table ms) = Ok ms
members_of k d = Err (fault.Wrong k)

-- an account's terms, none where they are left out
abbrev pub terms_of : Option Data → Result Items PlanFault
terms_of None = Ok no_items
terms_of (Some d) = items_of key.Term (Some d)

-- the terms in a table
abbrev pub terms_in : Members → Result Items PlanFault
terms_in ms = terms_of (at key.Term ms)

-- a term of account n after one that starts at `last`: its start, and its meter
abbrev pub term_in : ℕ → ℕ → Data → Result (ℕ × AnyMeter) PlanFault
term_in n last value = do
  ms ← members_of key.Term value
  kind ← kind_in ms
  tell ← only_if (has_only (term_keys_of kind) ms) fault.UnknownKey
  from ← whole_of key.From (last + 1) (time_end - 1) (at key.From ms)
  aware ← truth_or_false key.Aware (at key.Aware ms)
  told ← meter_in kind aware ms
  meter ← judged n told
  Ok (from, meter)

-- terms, one after the other
abbrev pub terms_from : ℕ → ℕ → Items → Result (List (ℕ × AnyMeter)) PlanFault
terms_from n last no_items = Ok []
terms_from n last (item d ds) = do
  next ← term_in n last d
  others ← terms_from n next.0 ds
  Ok (next ∷ others)

-- a meter with terms: at most 8 of them
abbrev pub with_terms : ℕ → AnyMeter → Items → Result TermedMeter PlanFault
with_terms n first ds = do
  tell ← only_if (nat_le (count_items ds) most_terms) fault.Limits
  later ← terms_from n 0 ds
  Ok (record { first = first; later = later })

-- the meter of account n, and then its terms
abbrev pub termed_in : ℕ → Result AnyMeter MeterFault → Items → Result TermedMeter PlanFault
termed_in n told ds = do
  first ← judged n told
  with_terms n first ds

-- account n
abbrev pub account_in : ℕ → Data → Result PlannedAccount PlanFault
account_in n value = do
  ms ← members_of key.Account value
  kind ← kind_in ms
  tell ← only_if (has_only (keys_of kind) ms) fault.UnknownKey
  name ← name_in ms
  aware ← truth_or_false key.Aware (at key.Aware ms)
  other ← other_of (at key.Other ms)
  told ← meter_in kind aware ms
  pairs ← pairs_in ms
  terms ← terms_in ms
  meter ← termed_in n told terms
  Ok (record { name = name; meter = meter; other = other; pairs = pairs })

-- the accounts from account n on
abbrev pub accounts_from : ℕ → Items → Result (List PlannedAccount) PlanFault
accounts_from n no_items = Ok []
accounts_from n (item d ds) = do
  account ← account_in n d
  others ← accounts_from (suc n) ds
  Ok (account ∷ others)

-- a plan of these accounts
abbrev pub plan_with : ℕ → List PlannedAccount → Result AccountPlan PlanFault
plan_with period accounts = do
  few ← only_if (nat_le (length (all_pairs accounts)) most_pairs) fault.Limits
  distinct ← only_if (are_distinct accounts) fault.KeyTwice
  Ok (record { period = period; accounts = accounts })

-- the plan that a table is
abbrev pub plan_of : Members → Result AccountPlan PlanFault
plan_of ms = do
  known ← only_if (has_only (key.Period ∷ key.Account ∷ []) ms) fault.UnknownKey
  period ← whole_of key.Period 1 (time_end - 1) (at key.Period ms)
  items ← items_of key.Account (at key.Account ms)
  few ← only_if (nat_le 1 (count_items items) && nat_le (count_items items) most_accounts) fault.Limits
  accounts ← accounts_from 0 items
  plan_with period accounts

-- the plan that a text is, by the document that it is
abbrev pub plan_in : Option Members → Result AccountPlan PlanFault
plan_in None = Err fault.Syntax
plan_in (Some ms) = plan_of ms

-- A text is this plan.
pub record IsPlanOf (text : List ℕ) (plan : AccountPlan) : Type 0 where
  pub utf8 : IsUtf8 text
  pub named : plan_in (parse_document text) ≡ Ok plan
