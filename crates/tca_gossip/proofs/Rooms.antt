-- Room for one report more in a chain, and a report that takes it.
use Rattle.std.proofs.Common.{◌≡◌, ℕ, true, false, cond, Option, None, Some, Result, Ok, Err, OnOk, OnErr, List, [], ◌∷◌, ◌++◌, refl, sym, ap, ◌∙◌, subst}
use Rattle.std.proofs.lemmas.Bool.{eq-eqb}
use Rattle.tca_report.specs.report.Reports.{PacketReport}
use Rattle.tca_join.specs.Chains.{ChainView, chain}
use Rattle.tca_join.specs.Maps.{get, put, Rises, with_value, join_with}
use Rattle.tca_join.specs.laws.MapLaws.{get_put, rises_put}
use Rattle.tca_gossip.specs.inside.Storage.{chain_items, held_of, held_in}
use Rattle.tca_gossip.proofs.Plains.{held_puts, held_same}

module _ (es : List (ℕ × ChainView PacketReport)) (rises : Rises es) (o : ℕ) where
  pub get_set : (c : ChainView PacketReport) → get (with_value o c es) o ≡ Some c
  get_set c = get_put (λ _ w. w) o c es o rises ∙ ap (λ b. cond b (join_with (λ _ w. w) (get es o) (Some c)) (get es o)) (eq-eqb o o refl) ∙ last (get es o) where
    last : (a : Option (ChainView PacketReport)) → join_with (λ _ w. w) a (Some c) ≡ Some c
    last None = refl
    last (Some a) = refl

  -- a chain with the items that were kept
  set_held : (c : ChainView PacketReport) → c.items ≡ held_of es o → held_in (with_value o c es) ≡ held_in es
  set_held c is = subst (λ l. held_in (with_value o (chain l c.room) es) ≡ held_in es) (sym is) (held_same es rises o c.room)

  -- room in a chain that is there
  pub room_there : {A E : Type 0} (old new : ChainView PacketReport) (r : Result A E) → Some old ≡ get es o → OnOk r (new ≡ chain old.items true) → OnOk r (get (with_value o new es) o ≡ Some (chain (held_of es o) true))
  room_there old new (Ok x) there ok = get_set new ∙ ap Some ok ∙ ap (λ z. Some (chain (chain_items z) true)) there
  room_there old new (Err e) there ok = tt

  items_stay : {A E : Type 0} (old new : ChainView PacketReport) (r : Result A E) → OnOk r (new ≡ chain old.items true) → OnErr r (new ≡ old) → new.items ≡ old.items
  items_stay old new (Ok x) ok err = ap (λ (c : ChainView PacketReport). c.items) ok
  items_stay old new (Err e) ok err = ap (λ (c : ChainView PacketReport). c.items) err

  pub held_there : {A E : Type 0} (old new : ChainView PacketReport) (r : Result A E) → Some old ≡ get es o → OnOk r (new ≡ chain old.items true) → OnErr r (new ≡ old) → held_in (with_value o new es) ≡ held_in es
  held_there old new r there ok err = set_held new (items_stay old new r ok err ∙ ap chain_items there)

  pub kept_there : {A E : Type 0} (old new : ChainView PacketReport) (r : Result A E) → Some old ≡ get es o → OnOk r (new ≡ chain old.items true) → OnErr r (new ≡ old) → held_of (with_value o new es) o ≡ held_of es o
  kept_there old new r there ok err = ap chain_items (get_set new) ∙ items_stay old new r ok err ∙ ap chain_items there

  -- room in a new chain
  pub room_added : {A E : Type 0} (c : ChainView PacketReport) (new : List (ℕ × ChainView PacketReport)) (r : Result A E) → None ≡ get es o → c ≡ chain [] true → OnOk r (new ≡ with_value o c es) → OnOk r (get new o ≡ Some (chain (held_of es o) true))
  room_added c new (Ok x) none is ok = ap (λ z. get z o) ok ∙ get_set c ∙ ap Some is ∙ ap (λ z. Some (chain (chain_items z) true)) none
  room_added c new (Err e) none is ok = tt

  pub held_added : {A E : Type 0} (c : ChainView PacketReport) (new : List (ℕ × ChainView PacketReport)) (r : Result A E) → None ≡ get es o → c ≡ chain [] true → OnOk r (new ≡ with_value o c es) → OnErr r (new ≡ es) → held_in new ≡ held_in es
  held_added c new (Ok x) none is ok err = ap held_in ok ∙ set_held c (ap (λ (c : ChainView PacketReport). c.items) is ∙ ap chain_items none)
  held_added c new (Err e) none is ok err = ap held_in err

  pub kept_added : {A E : Type 0} (c : ChainView PacketReport) (new : List (ℕ × ChainView PacketReport)) (r : Result A E) → None ≡ get es o → c ≡ chain [] true → OnOk r (new ≡ with_value o c es) → OnErr r (new ≡ es) → held_of new o ≡ held_of es o
  kept_added c new (Ok x) none is ok err = ap (λ z. held_of z o) ok ∙ ap chain_items (get_set c) ∙ ap (λ (c : ChainView PacketReport). c.items) is ∙ ap chain_items none
  kept_added c new (Err e) none is ok err = ap (λ z. held_of z o) err

  -- a report at the end of a chain that has room
  pub pushed : (r : PacketReport) (old new : ChainView PacketReport) → Some old ≡ get es o → new ≡ chain (old.items ++ r ∷ []) false → held_in (with_value o new es) ≡ put (λ w u. w ++ u) o (r ∷ []) (held_in es)
  pushed r old new there is =
      ap (λ c. held_in (with_value o c es)) (is ∙ ap (λ z. chain (chain_items z ++ r ∷ []) false) there)
      ∙ held_puts es rises o r false

  pub rises_set : (c : ChainView PacketReport) → Rises (with_value o c es)
  rises_set c = rises_put (λ _ w. w) o c es rises

  pub rises_added : {A E : Type 0} (c : ChainView PacketReport) (new : List (ℕ × ChainView PacketReport)) (r : Result A E) → OnOk r (new ≡ with_value o c es) → OnErr r (new ≡ es) → Rises new
  rises_added c new (Ok x) ok err = subst Rises (sym ok) (rises_set c)
  rises_added c new (Err e) ok err = subst Rises (sym err) rises
