-- No part of a document is short of memory.
use Rattle.std.proofs.Common.{◌≢◌, ◌^◌, ◌+◌, ◌-◌, ℕ, suc, pos, Bool, true, false, List, Option, Some, None, Result, Ok, Err, cond, codes}
use Rattle.std.specs.Result.{IfErr}
use Rattle.std.specs.Str.{bytes_eq}
use Rattle.toml.specs.Data.{Data, Items, Members, array, boolean, integer, item, no_items, string, table}
use Rattle.tca_join.specs.Results.{◌>>=◌}
use Rattle.tca_meters.specs.declared.any_meter.AnyMeter.{AnyMeter}
use Rattle.tca_meters.specs.declared.fault.MeterFault.{MeterFault}
use Rattle.tca_accounts.specs.declared.key.Key.{Key}
use Rattle.tca_accounts.specs.declared.key.Key.TheVariants as key
use Rattle.tca_accounts.specs.declared.kind.Kind.{Kind}
use Rattle.tca_accounts.specs.declared.kind.Kind.TheVariants as kind
use Rattle.tca_accounts.specs.declared.fault.PlanFault.{PlanFault}
use Rattle.tca_accounts.specs.declared.fault.PlanFault.TheVariants as fault
use Rattle.tca_accounts.specs.Plans.{is_name}
use Rattle.tca_accounts.specs.Documents as doc
use Rattle.tca_accounts.specs.inside.Readings.{are_accounts, are_few, together}

abbrev pub Suffices : {A : Type 0} → Result A PlanFault → Type 0
Suffices r = IfErr r (λ e. e ≢ fault.Memory)

step : {A B : Type 0} (r : Result A PlanFault) (next : A → Result B PlanFault) → Suffices r → ((a : A) → Suffices (next a)) → Suffices (r >>= next)
step (Ok a) next h rest = rest a
step (Err e) next h rest = h

choice : {A : Type 0} (b : Bool) (r s : Result A PlanFault) → Suffices r → Suffices s → Suffices (cond b r s)
choice true r s h k = h
choice false r s h k = k

tested : (b : Bool) (e : PlanFault) → e ≢ fault.Memory → Suffices (doc.only_if b e)
tested b e h = choice b (Ok tt) (Err e) tt h

not_wrong : (k : Key) → fault.Wrong k ≢ fault.Memory
not_wrong k e = cc

whole : (k : Key) (least most : ℕ) (d : Option Data) → Suffices (doc.whole_of k least most d)
whole k least most None = λ e. cc
whole k least most (Some (integer (pos n))) = choice _ (Ok n) (Err (fault.Wrong k)) tt (not_wrong k)
whole k least most (Some d) = λ e. cc

truth : (k : Key) (d : Option Data) → Suffices (doc.truth_of k d)
truth k None = λ e. cc
truth k (Some (boolean b)) = tt
truth k (Some d) = λ e. cc

truth_or_false : (k : Key) (d : Option Data) → Suffices (doc.truth_or_false k d)
truth_or_false k None = tt
truth_or_false k (Some d) = truth k (Some d)

text : (k : Key) (d : Option Data) → Suffices (doc.text_of k d)
text k None = λ e. cc
text k (Some (string s)) = tt
text k (Some d) = λ e. cc

items : (k : Key) (d : Option Data) → Suffices (doc.items_of k d)
items k None = λ e. cc
items k (Some (array ds)) = tt
items k (Some d) = λ e. cc

kind_named : (word : List ℕ) → Suffices (doc.kind_named word)
kind_named word =
    choice (bytes_eq word (codes "rfc2697")) (Ok kind.SrTcm) _ tt (choice (bytes_eq word (codes "rfc2698")) (Ok kind.TrTcm) _ tt (choice (bytes_eq word (codes "rfc4115")) (Ok kind.Rfc4115) (Err (fault.Wrong key.Meter)) tt (not_wrong key.Meter)))

other : (d : Option Data) → Suffices (doc.other_of d)
other None = tt
other (Some d) = step (doc.text_of key.Other (Some d)) doc.colour_named (text key.Other (Some d)) (λ word. choice (bytes_eq word (codes "green")) (Ok _) _ tt (choice (bytes_eq word (codes "yellow")) (Ok _) _ tt (choice (bytes_eq word (codes "red")) (Ok _) (Err (fault.Wrong key.Other)) tt (not_wrong key.Other))))

name : (ms : Members) → Suffices (doc.name_in ms)
name ms = step (doc.text_of key.Name (doc.at key.Name ms)) _ (text key.Name _) (λ s. step (doc.only_if (is_name s) (fault.Wrong key.Name)) _ (tested _ _ (not_wrong key.Name)) (λ _. tt))

number : (k : Key) (ms : Members) → Suffices (doc.number_in k ms)
number k ms = whole k 0 (2 ^ 63 - 1) (doc.at k ms)

meter : (k : Kind) (aware : Bool) (ms : Members) → Suffices (doc.meter_in k aware ms)
meter kind.SrTcm aware ms =
    step (doc.number_in key.Cir ms) _ (number key.Cir ms) (λ cir. step (doc.number_in key.Cbs ms) _ (number key.Cbs ms) (λ cbs. step (doc.number_in key.Ebs ms) _ (number key.Ebs ms) (λ ebs. tt)))
meter kind.TrTcm aware ms =
    step (doc.number_in key.Cir ms) _ (number key.Cir ms) (λ cir. step (doc.number_in key.Cbs ms) _ (number key.Cbs ms) (λ cbs. step (doc.number_in key.Pir ms) _ (number key.Pir ms) (λ pir. step (doc.number_in key.Pbs ms) _ (number key.Pbs ms) (λ pbs. tt))))
meter kind.Rfc4115 aware ms =
    step (doc.truth_of key.ExactFit (doc.at key.ExactFit ms)) _ (truth key.ExactFit _) (λ fit. step (doc.number_in key.Cir ms) _ (number key.Cir ms) (λ cir. step (doc.number_in key.Cbs ms) _ (number key.Cbs ms) (λ cbs. step (doc.number_in key.Ebs ms) _ (number key.Ebs ms) (λ ebs. step (doc.number_in key.Eir ms) _ (number key.Eir ms) (λ eir. tt)))))

pair : (d : Data) → Suffices (doc.pair_in d)
pair (array (item first (item second no_items))) = step (doc.part_of first) _ (whole key.Keys 0 (2 ^ 32 - 1) (Some first)) (λ a. step (doc.part_of second) _ (whole key.Keys 0 (2 ^ 32 - 1) (Some second)) (λ b. tt))
pair d = λ e. cc

pairs : (ds : Items) → Suffices (doc.pairs_of ds)
pairs no_items = tt
pairs (item d ds) = step (doc.pair_in d) _ (pair d) (λ p. step (doc.pairs_of ds) _ (pairs ds) (λ others. tt))

listed : (ms : Members) → Suffices (doc.pairs_in ms)
listed ms = step (doc.items_of key.Keys (doc.at key.Keys ms)) _ (items key.Keys _) (λ ds. step (doc.only_if _ (fault.Wrong key.Keys)) _ (tested _ _ (not_wrong key.Keys)) (λ told. pairs ds))

judged : (n : ℕ) (r : Result AnyMeter MeterFault) → Suffices (doc.judged n r)
judged n (Ok m) = tt
judged n (Err e) = λ h. cc

members : (k : Key) (d : Data) → Suffices (doc.members_of k d)
members k (table ms) = tt
members k d = λ e. cc

terms_of : (d : Option Data) → Suffices (doc.terms_of d)
terms_of None = tt
terms_of (Some d) = items key.Term (Some d)

kind_of : (ms : Members) → Suffices (doc.kind_in ms)
kind_of ms = step (doc.text_of key.Meter (doc.at key.Meter ms)) doc.kind_named (text key.Meter _) kind_named

term : (n last : ℕ) (d : Data) → Suffices (doc.term_in n last d)
term n last d =
    step (doc.members_of key.Term d) _ (members key.Term d) (λ ms. step (doc.kind_in ms) _ (kind_of ms) (λ k. step (doc.only_if _ fault.UnknownKey) _ (tested _ _ (λ e. cc)) (λ known. step (doc.whole_of key.From (last + 1) (2 ^ 48 - 1) (doc.at key.From ms)) _ (whole key.From (last + 1) (2 ^ 48 - 1) _) (λ from. step (doc.truth_or_false key.Aware (doc.at key.Aware ms)) _ (truth_or_false key.Aware _) (λ aware. step (doc.meter_in k aware ms) _ (meter k aware ms) (λ told. step (doc.judged n told) _ (judged n told) (λ m. tt)))))))

terms : (n last : ℕ) (ds : Items) → Suffices (doc.terms_from n last ds)
terms n last no_items = tt
terms n last (item d ds) = step (doc.term_in n last d) _ (term n last d) (λ next. step (doc.terms_from n next.0 ds) _ (terms n next.0 ds) (λ others. tt))

termed : (n : ℕ) (told : Result AnyMeter MeterFault) (ds : Items) → Suffices (doc.termed_in n told ds)
termed n told ds = step (doc.judged n told) _ (judged n told) (λ first. step (doc.only_if _ fault.Limits) _ (tested _ _ (λ e. cc)) (λ few. step (doc.terms_from n 0 ds) _ (terms n 0 ds) (λ later. tt)))

account : (n : ℕ) (d : Data) → Suffices (doc.account_in n d)
account n d =
    step (doc.members_of key.Account d) _ (members key.Account d) (λ ms. step (doc.kind_in ms) _ (kind_of ms) (λ k. step (doc.only_if _ fault.UnknownKey) _ (tested _ _ (λ e. cc)) (λ known. step (doc.name_in ms) _ (name ms) (λ s. step (doc.truth_or_false key.Aware (doc.at key.Aware ms)) _ (truth_or_false key.Aware _) (λ aware. step (doc.other_of (doc.at key.Other ms)) _ (other (doc.at key.Other ms)) (λ colour. step (doc.meter_in k aware ms) _ (meter k aware ms) (λ told. step (doc.pairs_in ms) _ (listed ms) (λ pairs. step (doc.terms_in ms) _ (terms_of (doc.at key.Term ms)) (λ ds. step (doc.termed_in n told ds) _ (termed n told ds) (λ m. tt))))))))))

accounts : (n : ℕ) (ds : Items) → Suffices (doc.accounts_from n ds)
accounts n no_items = tt
accounts n (item d ds) = step (doc.account_in n d) _ (account n d) (λ a. step (doc.accounts_from (suc n) ds) _ (accounts (suc n) ds) (λ others. tt))

pub plans : (ds : Items) → Suffices (are_accounts ds)
plans ds = step (doc.accounts_from 0 ds) together (accounts 0 ds) (λ all. step (doc.only_if (are_few all) fault.Limits) _ (tested _ _ (λ e. cc)) (λ few. tested _ _ (λ e. cc)))
