-- What the history of a replica says of it, and how it goes on.
use Rattle.std.proofs.Common.{◌≡◌, ℕ, List, [], ◌∷◌, ◌++◌, sym, ◌∙◌, subst}
use Rattle.std.specs.List.{AllByRecursion}
use Rattle.tca_accounts.specs.Plans.{AccountPlan}
use Rattle.tca_gossip.specs.Replicas.{ReplicaView}
use Rattle.tca_ingest.specs.Entries.{EntryView, pass_of}
use Rattle.tca_ingest.specs.EntryViews.{entry_views}
use Rattle.tca_ingest.specs.Journals.{IsHistory}
use Rattle.tca_ingest.specs.Shares.{HeldView, IsReplayed}
use Rattle.tca_ingest.specs.declared.entry.Entry.{Entry}
use Rattle.tca_ingest.proofs.Histories.{history_name, history_plan, history_log, history_own, history_part, history_bill}

pub replayed : (plan : AccountPlan) (name : ℕ) (v : ReplicaView) (journal : List EntryView) → IsHistory plan name v journal → IsReplayed plan name v journal
replayed plan name v journal h = record {
  name_is = history_name plan name v journal h;
  plan_is = history_plan plan name v journal h;
  log = history_log plan name v journal h;
  own_chain = history_own plan name v journal h;
  parts = history_part plan name v journal h;
  bill = history_bill plan name v journal h;
  right = h.right;
}

-- the same of a view of it
pub replayed_of : (plan : AccountPlan) (name : ℕ) (h old : HeldView) → h ≡ old → IsHistory plan name h.replica h.journal → IsReplayed plan name old.replica old.journal
replayed_of plan name h old same is = subst (λ (z : HeldView). IsReplayed plan name z.replica z.journal) same (replayed plan name h.replica h.journal is)

-- the history with one entry more, as the journal is then
pub history_noted : (plan : AccountPlan) (name : ℕ) (w : ReplicaView) (old mid new : List Entry) (given e : EntryView) → IsHistory plan name w (entry_views old ++ e ∷ []) → mid ≡ old → entry_views new ≡ entry_views mid ++ given ∷ [] → given ≡ e
    → IsHistory plan name w (entry_views new)
history_noted plan name w old mid new given e h same more is =
    let journal : entry_views new ≡ entry_views old ++ e ∷ [] = more ∙ (λ i. entry_views (same i) ++ is i ∷ []) in
    subst (IsHistory plan name w) (sym journal) h

all_push : {X : Type 0} (P : X → Type 0) (xs : List X) (x : X) → AllByRecursion P xs → P x → AllByRecursion P (xs ++ x ∷ [])
all_push P [] x all here = (here, tt)
all_push P (y ∷ ys) x all here = (all.0, all_push P ys x all.1 here)

-- the calls of a pass, each with its number, and one more with it
pub whose_noted : (number : ℕ) (old mid new : List Entry) (given : EntryView) → AllByRecursion (λ e. pass_of e ≡ number) (entry_views old) → mid ≡ old → entry_views new ≡ entry_views mid ++ given ∷ [] → pass_of given ≡ number
    → AllByRecursion (λ e. pass_of e ≡ number) (entry_views new)
whose_noted number old mid new given all same more whose =
    let calls : entry_views new ≡ entry_views old ++ given ∷ [] = more ∙ (λ i. entry_views (same i) ++ given ∷ []) in
    subst (AllByRecursion (λ e. pass_of e ≡ number)) (sym calls) (all_push (λ e. pass_of e ≡ number) (entry_views old) given all whose)
