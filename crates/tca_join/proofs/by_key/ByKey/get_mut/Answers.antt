use Rattle.std.proofs.Common.{◌≡◌, ◌⊎◌, inl, sym}
use Rattle.tca_join.proofs.Positions.{rises_set}
use Rattle.tca_join.proofs.by_key.ByKey.get_mut.Goals as goal

-- two ways to end are one where they end alike at each value
ends_alike : {N V M : Type 0} (n : N) (F G : V → M) → ((w : V) → F w ≡ G w) → ◌≡◌ {A = (N × (V → M)) ⊎ M} (inl (n, F)) (inl (n, G))
ends_alike n F G same = λ i. inl (n, λ w. same w i)

pub invariant_of-self-lent : goal.invariant_of-self-lent
invariant_of-self-lent g c w =
    rises_set c.self.inside.entries.items c.args.key c.in-Ok.at c.index_mut.result.now w c.self.invariant (rw c.deref.ensures.value at c.in-Ok.ensures.found) c.index_mut.ensures.value

pub returns-in-Ok : goal.returns-in-Ok
returns-in-Ok g c =
    let found = rw c.deref.ensures.value at c.in-Ok.ensures.found in
    rw (← c.self.view_is) (
      ends_alike _ _ _ (λ w. sym (found.puts c.index_mut.result.now c.index_mut.ensures.value (λ _ u. u) w)),
      record { writes_back = tt; value = sym (found.has c.index_mut.result.now c.index_mut.ensures.value).1 },
    )
