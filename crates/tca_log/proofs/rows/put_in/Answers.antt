use Rattle.std.proofs.lemmas.Grind.{common_steps}
use Rattle.std.proofs.Common.{◌≡◌, ◌+◌, ◌≤◌, ◌∷◌, ◌∙◌, [], length, set, rules, sym, ap, arith}
use Rattle.std.specs.List.{insert}
use Rattle.tca_log.proofs.OrderedRows.Whole.{here, rises_here, put_here, split_here, first_chunk, first_put, no_items}
use Rattle.tca_log.proofs.OrderedRows.Small.{IsSmall, all_at, all_one, all_split, put_longest}
use Rattle.tca_join.specs.Sets.{put}
use Rattle.std.proofs.lemmas.List.Elements.{All-set}
use Rattle.tca_log.proofs.rows.put_in.Goals as goal

pub put-requires-clause-rises : goal.put-requires-clause-rises
put-requires-clause-rises g c =
    rises_here g.K.Ord.cmp g.met.K.Ord.total c.args.key c.args.chunks.now.items c.position-at.result c.index_mut.result.now c.requires.chunks (rw c.deref.ensures.value at c.position-at.ensures) c.index_mut.ensures.value

pub put_splitting-requires-clause-rises : goal.put_splitting-requires-clause-rises
put_splitting-requires-clause-rises g c =
    rises_here g.K.Ord.cmp g.met.K.Ord.total c.args.key c.args.chunks.now.items c.position-at.result c.index_mut-in-Some-take.result.now c.requires.chunks (rw c.deref.ensures.value at c.position-at.ensures) c.index_mut-in-Some-take.ensures.value

pub returns-then-len-lt-CHUNK-clause-joined : goal.returns-then-len-lt-CHUNK-clause-joined
returns-then-len-lt-CHUNK-clause-joined g c =
    rw c.put.ensures ((put_here g.K.Ord.cmp g.met.K.Ord.total c.args.key c.args.chunks.now.items c.position-at.result c.index_mut.result.now c.requires.chunks (rw c.deref.ensures.value at c.position-at.ensures) c.index_mut.ensures.value).0)

pub returns-then-len-lt-CHUNK-clause-chunks : goal.returns-then-len-lt-CHUNK-clause-chunks
returns-then-len-lt-CHUNK-clause-chunks g c =
    rw c.put.ensures ((put_here g.K.Ord.cmp g.met.K.Ord.total c.args.key c.args.chunks.now.items c.position-at.result c.index_mut.result.now c.requires.chunks (rw c.deref.ensures.value at c.position-at.ensures) c.index_mut.ensures.value).1)

pub returns-in-Some-take-clause-joined : goal.returns-in-Some-take-clause-joined
returns-in-Some-take-clause-joined g c =
    let done : c.insert.new.self.items ≡ insert (set c.args.chunks.now.items c.position-at.result c.put_splitting.new.self) (c.position-at.result + 1) c.put_splitting.new.upper = search rules in
    rw done ((split_here g.K.Ord.cmp g.met.K.Ord.total c.args.key c.args.chunks.now.items c.position-at.result c.index_mut-in-Some-take.result.now c.put_splitting.new.self c.put_splitting.new.upper c.requires.chunks (rw c.deref.ensures.value at c.position-at.ensures) c.index_mut-in-Some-take.ensures.value c.put_splitting.ensures.all c.put_splitting.ensures.some c.put_splitting.ensures.more).0)

pub returns-in-Some-take-clause-chunks : goal.returns-in-Some-take-clause-chunks
returns-in-Some-take-clause-chunks g c =
    let done : c.insert.new.self.items ≡ insert (set c.args.chunks.now.items c.position-at.result c.put_splitting.new.self) (c.position-at.result + 1) c.put_splitting.new.upper = search rules in
    rw done ((split_here g.K.Ord.cmp g.met.K.Ord.total c.args.key c.args.chunks.now.items c.position-at.result c.index_mut-in-Some-take.result.now c.put_splitting.new.self c.put_splitting.new.upper c.requires.chunks (rw c.deref.ensures.value at c.position-at.ensures) c.index_mut-in-Some-take.ensures.value c.put_splitting.ensures.all c.put_splitting.ensures.some c.put_splitting.ensures.more).1)

pub returns-in-Some-clause-joined : goal.returns-in-Some-clause-joined
returns-in-Some-clause-joined g c =
    let empty : c.args.chunks.now.items ≡ [] = no_items c.args.chunks.now.items (omega (arith, c.len.ensures)) in
    let done : c.push-in-Some.new.self.items ≡ (c.args.key ∷ []) ∷ [] = search rules in
    rw (done, empty) (sym (first_put g.K.Ord.cmp g.met.K.Ord.total c.args.key))

pub returns-in-Some-clause-chunks : goal.returns-in-Some-clause-chunks
returns-in-Some-clause-chunks g c =
    let empty : c.args.chunks.now.items ≡ [] = no_items c.args.chunks.now.items (omega (arith, c.len.ensures)) in
    let done : c.push-in-Some.new.self.items ≡ (c.args.key ∷ []) ∷ [] = search rules in
    rw done (first_chunk g.K.Ord.cmp g.met.K.Ord.total c.args.key)

pub put_splitting-requires-clause-full : goal.put_splitting-requires-clause-full
put_splitting-requires-clause-full g c =
    let position = rw c.deref.ensures.value at c.position-at.ensures in
    let small = all_at IsSmall c.args.chunks.now.items c.position-at.result c.index_mut-in-Some-take.result.now c.requires.small position.inside c.index_mut-in-Some-take.ensures.value in
    let same = sym (here g.K.Ord.cmp g.met.K.Ord.total c.args.chunks.now.items c.position-at.result c.index_mut-in-Some-take.result.now position.inside c.index_mut-in-Some-take.ensures.value) ∙ here g.K.Ord.cmp g.met.K.Ord.total c.args.chunks.now.items c.position-at.result c.index.result.now position.inside c.index.ensures in
    omega (arith, small, ap length same, c.len-2.ensures, c.if-len-lt-CHUNK.false)

pub returns-then-len-lt-CHUNK-clause-small : goal.returns-then-len-lt-CHUNK-clause-small
returns-then-len-lt-CHUNK-clause-small g c =
    let position = rw c.deref.ensures.value at c.position-at.ensures in
    let same = sym (here g.K.Ord.cmp g.met.K.Ord.total c.args.chunks.now.items c.position-at.result c.index_mut.result.now position.inside c.index_mut.ensures.value) ∙ here g.K.Ord.cmp g.met.K.Ord.total c.args.chunks.now.items c.position-at.result c.index.result.now position.inside c.index.ensures in
    let few : length (put g.K.Ord.cmp c.args.key c.index_mut.result.now) ≤ 256 = omega (arith, put_longest g.K.Ord.cmp c.args.key c.index_mut.result.now, ap length same, c.len-2.ensures, c.if-len-lt-CHUNK.true) in
    rw c.put.ensures (All-set IsSmall c.args.chunks.now.items c.position-at.result (put g.K.Ord.cmp c.args.key c.index_mut.result.now) few c.requires.small)

pub returns-in-Some-take-clause-small : goal.returns-in-Some-take-clause-small
returns-in-Some-take-clause-small g c =
    let done : c.insert.new.self.items ≡ insert (set c.args.chunks.now.items c.position-at.result c.put_splitting.new.self) (c.position-at.result + 1) c.put_splitting.new.upper = search rules in
    rw done (all_split IsSmall c.args.chunks.now.items c.position-at.result c.put_splitting.new.self c.put_splitting.new.upper c.requires.small c.put_splitting.ensures.small c.put_splitting.ensures.small_upper)

pub returns-in-Some-clause-small : goal.returns-in-Some-clause-small
returns-in-Some-clause-small g c =
    let empty : c.args.chunks.now.items ≡ [] = no_items c.args.chunks.now.items (omega (arith, c.len.ensures)) in
    let done : c.push-in-Some.new.self.items ≡ (c.args.key ∷ []) ∷ [] = search rules in
    rw done (all_one IsSmall (c.args.key ∷ []) (omega arith))

pub push-requires : goal.push-requires
push-requires g c = grind (arith, common_steps)

pub returns-in-Some-clause-spare : goal.returns-in-Some-clause-spare
returns-in-Some-clause-spare g c = grind (arith, common_steps)

pub returns-in-Some-clause-room : goal.returns-in-Some-clause-room
returns-in-Some-clause-room g c = grind (arith, common_steps)

pub returns-in_default-clause-joined : goal.returns-in_default-clause-joined
returns-in_default-clause-joined g c = grind (arith, common_steps)

pub returns-in_default-clause-chunks : goal.returns-in_default-clause-chunks
returns-in_default-clause-chunks g c = grind (arith, common_steps)

pub returns-in_default-clause-small : goal.returns-in_default-clause-small
returns-in_default-clause-small g c = grind (arith, common_steps)

pub returns-in_default-clause-spare : goal.returns-in_default-clause-spare
returns-in_default-clause-spare g c = grind (arith, common_steps)

pub returns-in_default-clause-room : goal.returns-in_default-clause-room
returns-in_default-clause-room g c = grind (arith, common_steps)

pub position-at-requires : goal.position-at-requires
position-at-requires g c = grind (arith, common_steps)

pub index-requires : goal.index-requires
index-requires g c = grind (arith, common_steps)

pub index_mut-requires : goal.index_mut-requires
index_mut-requires g c = grind (arith, common_steps)

pub put-requires-clause-room : goal.put-requires-clause-room
put-requires-clause-room g c = grind (arith, common_steps)

pub overflow_add-is_last : goal.overflow_add-is_last
overflow_add-is_last g c = grind (arith, common_steps)

pub index_mut-requires-in-Some-take : goal.index_mut-requires-in-Some-take
index_mut-requires-in-Some-take g c = grind (arith, common_steps)

pub put_splitting-requires-clause-empty : goal.put_splitting-requires-clause-empty
put_splitting-requires-clause-empty g c = grind (arith, common_steps)

pub overflow_add-at : goal.overflow_add-at
overflow_add-at g c = grind (arith, common_steps)

pub insert-requires : goal.insert-requires
insert-requires g c = grind (arith, common_steps)

pub returns-then-len-lt-CHUNK-clause-spare : goal.returns-then-len-lt-CHUNK-clause-spare
returns-then-len-lt-CHUNK-clause-spare g c = grind (arith, common_steps)

pub returns-then-len-lt-CHUNK-clause-room : goal.returns-then-len-lt-CHUNK-clause-room
returns-then-len-lt-CHUNK-clause-room g c = grind (arith, common_steps)

pub returns-in-Some-take-clause-spare : goal.returns-in-Some-take-clause-spare
returns-in-Some-take-clause-spare g c = grind (arith, common_steps)

pub returns-in-Some-take-clause-room : goal.returns-in-Some-take-clause-room
returns-in-Some-take-clause-room g c = grind (arith, common_steps)

pub returns-in_default-take-clause-joined : goal.returns-in_default-take-clause-joined
returns-in_default-take-clause-joined g c = grind (arith, common_steps)

pub returns-in_default-take-clause-chunks : goal.returns-in_default-take-clause-chunks
returns-in_default-take-clause-chunks g c = grind (arith, common_steps)

pub returns-in_default-take-clause-small : goal.returns-in_default-take-clause-small
returns-in_default-take-clause-small g c = grind (arith, common_steps)

pub returns-in_default-take-clause-spare : goal.returns-in_default-take-clause-spare
returns-in_default-take-clause-spare g c = grind (arith, common_steps)

pub returns-in_default-take-clause-room : goal.returns-in_default-take-clause-room
returns-in_default-take-clause-room g c = grind (arith, common_steps)
