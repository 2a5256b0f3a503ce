-- A run goes on by a step.
use Rattle.std.proofs.Common.{◌≡◌, ℕ, ◌+◌, ◌<◌, List, [], ◌∷◌, ◌++◌, map, length, take, get_or, refl, sym, ap, ◌∙◌, subst}
use Rattle.tca_gossip.specs.Machines.{Machine}
use Rattle.tca_gossip.specs.Coupling.{WorldView, IsCoupled, StepsTo, RunsTo}
use Rattle.tca_gossip.specs.declared.step.Step.{Step}
use Rattle.tca_gossip.specs.declared.step.Reply.{Reply}
use Rattle.tca_gossip.specs.Worlds.{step_view, reply_view}
use Rattle.tca_gossip.proofs.Starts.{runs_more}
use Rattle.tca_gossip.proofs.TakeSteps.{take_next}

map_end : {A B : Type 0} (f : A → B) (xs : List A) (x : A) → map f (xs ++ x ∷ []) ≡ map f xs ++ f x ∷ []
map_end f [] x = refl
map_end f (y ∷ xs) x = ap (λ l. f y ∷ l) (map_end f xs x)

pub run_on : (m : Machine) (steps : List Step) (i : ℕ) (step : Step) (replies more : List Reply) (reply : Reply) (now after : WorldView) → i < length steps → step ≡ get_or steps i step → more ≡ replies ++ reply ∷ []
    → RunsTo m (map step_view (take i steps)) (map reply_view replies) now → ((mid : Machine) → IsCoupled mid now → StepsTo mid (step_view step) (reply_view reply) after) → RunsTo m (map step_view (take (i + 1) steps)) (map reply_view more) after
run_on m steps i step replies more reply now after h is more-is run next =
    let steps-are : map step_view (take i steps) ++ step_view step ∷ [] ≡ map step_view (take (i + 1) steps) = sym (ap (map step_view) (take_next steps i step h is) ∙ map_end step_view (take i steps) step) in
    let replies-are : map reply_view replies ++ reply_view reply ∷ [] ≡ map reply_view more = sym (ap (map reply_view) more-is ∙ map_end reply_view replies reply) in
    subst (λ l. RunsTo m l (map reply_view more) after) steps-are
    (subst (λ l. RunsTo m (map step_view (take i steps) ++ step_view step ∷ []) l after) replies-are
    (runs_more m now after (map step_view (take i steps)) (map reply_view replies) (step_view step) (reply_view reply) run next))
