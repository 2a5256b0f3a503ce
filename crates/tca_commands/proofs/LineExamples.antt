-- What command lines mean that are written out.
use Rattle.std.proofs.Common.{◌≡◌, [], ◌∷◌, Some, None, codes, refl}
use Rattle.clap.proofs.OnLiterals.{clap_on_literals}
use Rattle.tca_commands.specs.Lines.{audit, bill, meter, combine, order_in}

pub one_input : order_in (codes "tcacct" ∷ codes "meter" ∷ codes "rfc2697:1000:2000:1000:blind" ∷ codes "a" ∷ []) ≡ Some (meter (codes "rfc2697:1000:2000:1000:blind") (codes "a" ∷ []))
unfolding clap_on_literals
one_input = refl

pub two_inputs : order_in (codes "tcacct" ∷ codes "meter" ∷ codes "s" ∷ codes "a" ∷ codes "b" ∷ []) ≡ Some (meter (codes "s") (codes "a" ∷ codes "b" ∷ []))
unfolding clap_on_literals
two_inputs = refl

pub union : order_in (codes "tcacct" ∷ codes "combine" ∷ codes "o" ∷ codes "a" ∷ codes "b" ∷ codes "c" ∷ []) ≡ Some (combine (codes "o") (codes "a" ∷ codes "b" ∷ codes "c" ∷ []))
unfolding clap_on_literals
union = refl

pub dashes : order_in (codes "tcacct" ∷ codes "combine" ∷ codes "--" ∷ codes "-o" ∷ codes "-a" ∷ []) ≡ Some (combine (codes "-o") (codes "-a" ∷ []))
unfolding clap_on_literals
dashes = refl

pub no_words : order_in ([]) ≡ None
unfolding clap_on_literals
no_words = refl

pub no_command : order_in (codes "tcacct" ∷ []) ≡ None
unfolding clap_on_literals
no_command = refl

pub bill_plain : order_in (codes "tcacct" ∷ codes "bill" ∷ codes "plan" ∷ codes "a" ∷ codes "b" ∷ []) ≡ Some (bill 2 2 None (codes "plan") (codes "a" ∷ codes "b" ∷ []))
unfolding clap_on_literals
bill_plain = refl

pub bill_export : order_in (codes "tcacct" ∷ codes "bill" ∷ codes "--export" ∷ codes "o" ∷ codes "plan" ∷ codes "a" ∷ []) ≡ Some (bill 2 2 (Some (codes "o")) (codes "plan") (codes "a" ∷ []))
unfolding clap_on_literals
bill_export = refl

pub export_behind : order_in (codes "tcacct" ∷ codes "bill" ∷ codes "plan" ∷ codes "a" ∷ codes "b" ∷ codes "--export=o" ∷ []) ≡ Some (bill 2 2 (Some (codes "o")) (codes "plan") (codes "a" ∷ codes "b" ∷ []))
unfolding clap_on_literals
export_behind = refl

pub plan_alone : order_in (codes "tcacct" ∷ codes "bill" ∷ codes "plan" ∷ []) ≡ None
unfolding clap_on_literals
plan_alone = refl

pub two_exports : order_in (codes "tcacct" ∷ codes "bill" ∷ codes "--export" ∷ codes "o" ∷ codes "--export" ∷ codes "p" ∷ codes "plan" ∷ codes "a" ∷ []) ≡ None
unfolding clap_on_literals
two_exports = refl

pub replicas_and_workers : order_in (codes "tcacct" ∷ codes "bill" ∷ codes "--workers" ∷ codes "64" ∷ codes "--replicas=16" ∷ codes "plan" ∷ codes "a" ∷ []) ≡ Some (bill 16 64 None (codes "plan") (codes "a" ∷ []))
unfolding clap_on_literals
replicas_and_workers = refl

pub no_replica : order_in (codes "tcacct" ∷ codes "bill" ∷ codes "--replicas" ∷ codes "0" ∷ codes "plan" ∷ codes "a" ∷ []) ≡ None
unfolding clap_on_literals
no_replica = refl

pub many_replicas : order_in (codes "tcacct" ∷ codes "bill" ∷ codes "--replicas" ∷ codes "17" ∷ codes "plan" ∷ codes "a" ∷ []) ≡ None
unfolding clap_on_literals
many_replicas = refl

pub no_worker : order_in (codes "tcacct" ∷ codes "bill" ∷ codes "--workers" ∷ codes "0" ∷ codes "plan" ∷ codes "a" ∷ []) ≡ None
unfolding clap_on_literals
no_worker = refl

pub many_workers : order_in (codes "tcacct" ∷ codes "bill" ∷ codes "--workers" ∷ codes "65" ∷ codes "plan" ∷ codes "a" ∷ []) ≡ None
unfolding clap_on_literals
many_workers = refl

pub audit_whole : order_in (codes "tcacct" ∷ codes "audit" ∷ codes "plan" ∷ codes "e" ∷ codes "s" ∷ []) ≡ Some (audit (codes "plan") (codes "e") (codes "s"))
unfolding clap_on_literals
audit_whole = refl

pub no_statement : order_in (codes "tcacct" ∷ codes "audit" ∷ codes "plan" ∷ codes "e" ∷ []) ≡ None
unfolding clap_on_literals
no_statement = refl

pub fourth_word : order_in (codes "tcacct" ∷ codes "audit" ∷ codes "plan" ∷ codes "e" ∷ codes "s" ∷ codes "t" ∷ []) ≡ None
unfolding clap_on_literals
fourth_word = refl

pub unknown_command : order_in (codes "tcacct" ∷ codes "check" ∷ codes "plan" ∷ codes "a" ∷ codes "b" ∷ []) ≡ None
unfolding clap_on_literals
unknown_command = refl

pub no_input : order_in (codes "tcacct" ∷ codes "meter" ∷ codes "s" ∷ []) ≡ None
unfolding clap_on_literals
no_input = refl

pub third_input : order_in (codes "tcacct" ∷ codes "meter" ∷ codes "s" ∷ codes "a" ∷ codes "b" ∷ codes "c" ∷ []) ≡ None
unfolding clap_on_literals
third_input = refl

pub no_file : order_in (codes "tcacct" ∷ codes "combine" ∷ codes "o" ∷ []) ≡ None
unfolding clap_on_literals
no_file = refl

pub unknown_option : order_in (codes "tcacct" ∷ codes "meter" ∷ codes "--quiet" ∷ codes "s" ∷ codes "a" ∷ []) ≡ None
unfolding clap_on_literals
unknown_option = refl

pub help : order_in (codes "tcacct" ∷ codes "--help" ∷ []) ≡ None
unfolding clap_on_literals
help = refl
