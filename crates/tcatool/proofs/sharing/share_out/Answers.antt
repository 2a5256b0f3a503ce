use Rattle.std.proofs.Common.{◌≡◌, ◌∙◌, ◌<◌, Some, None, length, get_or, sym, refl, arith}
use Rattle.tca_accounts.specs.Plans.{account_of}
use Rattle.tcatool.proofs.SharedItems.{all_counted, disputed_next, next_has_room, next_in_time, none_shared, shared_next, unowned_next}
use Rattle.tcatool.specs.declared.item.Item.{Item}
use Rattle.tcatool.proofs.sharing.share_out.Goals as goal

pub loop-item-init : goal.loop-item-init
loop-item-init c = none_shared c.args.plan.now c.args.items.now c.args.accounts.now c.requires.opened c.requires.alone c.requires.rises

pub loop-item-preserved-then-not-item : goal.loop-item-preserved-then-not-item
loop-item-preserved-then-not-item c =
    let l = c.loop-item in
    let x = get_or l.items l.item-index c.item-item.result in
    disputed_next c.args.plan.now c.args.items.now l.items l.item-index l.accounts l.invariant x c.item-item.result (omega arith) (omega arith) refl c.if-not-item.true

pub loop-item-preserved-in_default : goal.loop-item-preserved-in_default
loop-item-preserved-in_default c =
    let l = c.loop-item in
    let x = get_or l.items l.item-index c.item-item.result in
    let none : account_of c.args.plan.now x.report ≡ None = sym c.account_of.ensures.account ∙ c.in_default.is in
    unowned_next c.args.plan.now c.args.items.now l.items l.item-index l.accounts l.invariant x c.item-item.result (omega arith) (omega arith) refl c.if-not-item.false none

pub colour_of-colour-requires-clause-order : goal.colour_of-colour-requires-clause-order
colour_of-colour-requires-clause-order c =
    let l = c.loop-item in
    let x = get_or l.items l.item-index c.item-item.result in
    let n = c.in-Some.account in
    let owner : account_of c.args.plan.now x.report ≡ Some n = sym c.account_of.ensures.account ∙ c.in-Some.is in
    let low : n < length c.args.plan.now.accounts = c.in-Some.ensures.below in
    next_in_time c.args.plan.now c.args.items.now l.items l.item-index l.accounts l.invariant x c.item-item.result (omega arith) (omega arith) refl c.if-not-item.false n (get_or l.accounts n c.index-accounts-account.result) c.index-accounts-account.result owner low refl

pub colour_of-colour-requires-clause-few : goal.colour_of-colour-requires-clause-few
colour_of-colour-requires-clause-few c =
    let l = c.loop-item in
    let x = get_or l.items l.item-index c.item-item.result in
    let n = c.in-Some.account in
    let owner : account_of c.args.plan.now x.report ≡ Some n = sym c.account_of.ensures.account ∙ c.in-Some.is in
    let low : n < length c.args.plan.now.accounts = c.in-Some.ensures.below in
    next_has_room c.args.plan.now c.args.items.now l.items l.item-index l.accounts l.invariant x c.item-item.result (omega arith) (omega arith) refl c.if-not-item.false n (get_or l.accounts n c.index-accounts-account.result) c.index-accounts-account.result owner low refl c.requires.few

pub loop-item-preserved : goal.loop-item-preserved
loop-item-preserved c =
    let l = c.loop-item in
    let x = get_or l.items l.item-index c.item-item.result in
    let n = c.in-Some.account in
    let old = get_or l.accounts n c.index-accounts-account.result in
    let owner : account_of c.args.plan.now x.report ≡ Some n = sym c.account_of.ensures.account ∙ c.in-Some.is in
    let low : n < length c.args.plan.now.accounts = c.in-Some.ensures.below in
    let y : Item = record { report = x.report; is_settled = x.is_settled; share = Some (record { account = n; colour = c.colour_of-colour.result }) } in
    shared_next c.args.plan.now c.args.items.now l.items l.item-index l.accounts l.invariant x c.item-item.result (omega arith) (omega arith) refl c.if-not-item.false n old c.index-accounts-account.result owner low refl
    y c.colour_of-colour.new.self
    (λ i. record { report = x.report; is_settled = x.is_settled; share = Some (record { account = n; colour = c.colour_of-colour.ensures.colour i }) })
    c.colour_of-colour.ensures.after

pub returns-clause-colours : goal.returns-clause-colours
returns-clause-colours c = all_counted c.args.plan.now c.args.items.now c.loop-item.items c.loop-item.item-index c.loop-item.accounts c.loop-item.invariant (omega arith)
