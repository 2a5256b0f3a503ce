-- What command lines mean that are written out.
use Rattle.std.proofs.Common.{◌≡◌, [], ◌∷◌, Some, None, true, false, codes, refl}
use Rattle.clap.proofs.OnLiterals.{clap_on_literals}
use Rattle.tcatool.specs.Lines.{add, diff, json, list, order_in, page, pairs, split, table}

pub is_pairs : order_in (codes "tcatool" ∷ codes "pairs" ∷ codes "a" ∷ codes "b" ∷ []) ≡ Some (pairs (codes "a" ∷ codes "b" ∷ []))
unfolding clap_on_literals
is_pairs = refl

pub is_no_input : order_in (codes "tcatool" ∷ codes "pairs" ∷ []) ≡ None
unfolding clap_on_literals
is_no_input = refl

pub is_list : order_in (codes "tcatool" ∷ codes "list" ∷ codes "a" ∷ []) ≡ Some (list None (codes "a" ∷ []))
unfolding clap_on_literals
is_list = refl

pub is_list_plan : order_in (codes "tcatool" ∷ codes "list" ∷ codes "--plan" ∷ codes "p" ∷ codes "a" ∷ codes "b" ∷ []) ≡ Some (list (Some (codes "p")) (codes "a" ∷ codes "b" ∷ []))
unfolding clap_on_literals
is_list_plan = refl

pub is_plan_behind : order_in (codes "tcatool" ∷ codes "list" ∷ codes "a" ∷ codes "--plan=p" ∷ []) ≡ Some (list (Some (codes "p")) (codes "a" ∷ []))
unfolding clap_on_literals
is_plan_behind = refl

pub is_plan_alone : order_in (codes "tcatool" ∷ codes "list" ∷ codes "--plan" ∷ codes "p" ∷ []) ≡ None
unfolding clap_on_literals
is_plan_alone = refl

pub is_diff : order_in (codes "tcatool" ∷ codes "diff" ∷ codes "x" ∷ codes "y" ∷ []) ≡ Some (diff (codes "x") (codes "y"))
unfolding clap_on_literals
is_diff = refl

pub is_one_side : order_in (codes "tcatool" ∷ codes "diff" ∷ codes "x" ∷ []) ≡ None
unfolding clap_on_literals
is_one_side = refl

pub is_three_sides : order_in (codes "tcatool" ∷ codes "diff" ∷ codes "x" ∷ codes "y" ∷ codes "z" ∷ []) ≡ None
unfolding clap_on_literals
is_three_sides = refl

pub is_table : order_in (codes "tcatool" ∷ codes "table" ∷ codes "s" ∷ []) ≡ Some (table (codes "s"))
unfolding clap_on_literals
is_table = refl

pub is_two_tables : order_in (codes "tcatool" ∷ codes "table" ∷ codes "s" ∷ codes "t" ∷ []) ≡ None
unfolding clap_on_literals
is_two_tables = refl

pub is_json : order_in (codes "tcatool" ∷ codes "json" ∷ codes "s" ∷ []) ≡ Some (json (codes "s"))
unfolding clap_on_literals
is_json = refl

pub is_page : order_in (codes "tcatool" ∷ codes "page" ∷ codes "o" ∷ codes "s" ∷ []) ≡ Some (page false (codes "o") (codes "s"))
unfolding clap_on_literals
is_page = refl

pub is_page_progress : order_in (codes "tcatool" ∷ codes "page" ∷ codes "--progress" ∷ codes "o" ∷ codes "s" ∷ []) ≡ Some (page true (codes "o") (codes "s"))
unfolding clap_on_literals
is_page_progress = refl

pub is_page_alone : order_in (codes "tcatool" ∷ codes "page" ∷ codes "o" ∷ []) ≡ None
unfolding clap_on_literals
is_page_alone = refl

pub is_split : order_in (codes "tcatool" ∷ codes "split" ∷ codes "d" ∷ codes "c" ∷ []) ≡ Some (split false (codes "d") (codes "c"))
unfolding clap_on_literals
is_split = refl

pub is_split_progress : order_in (codes "tcatool" ∷ codes "split" ∷ codes "d" ∷ codes "c" ∷ codes "--progress" ∷ []) ≡ Some (split true (codes "d") (codes "c"))
unfolding clap_on_literals
is_split_progress = refl

pub is_two_captures : order_in (codes "tcatool" ∷ codes "split" ∷ codes "d" ∷ codes "c" ∷ codes "e" ∷ []) ≡ None
unfolding clap_on_literals
is_two_captures = refl

pub is_add : order_in (codes "tcatool" ∷ codes "add" ∷ codes "s" ∷ codes "t" ∷ []) ≡ Some (add (codes "s" ∷ codes "t" ∷ []))
unfolding clap_on_literals
is_add = refl

pub is_nothing_added : order_in (codes "tcatool" ∷ codes "add" ∷ []) ≡ None
unfolding clap_on_literals
is_nothing_added = refl

pub is_no_words : order_in ([]) ≡ None
unfolding clap_on_literals
is_no_words = refl

pub is_no_command : order_in (codes "tcatool" ∷ []) ≡ None
unfolding clap_on_literals
is_no_command = refl

pub is_unknown_command : order_in (codes "tcatool" ∷ codes "bill" ∷ codes "a" ∷ []) ≡ None
unfolding clap_on_literals
is_unknown_command = refl

pub is_unknown_option : order_in (codes "tcatool" ∷ codes "pairs" ∷ codes "--plan" ∷ codes "p" ∷ codes "a" ∷ []) ≡ None
unfolding clap_on_literals
is_unknown_option = refl

pub is_help : order_in (codes "tcatool" ∷ codes "--help" ∷ []) ≡ None
unfolding clap_on_literals
is_help = refl
