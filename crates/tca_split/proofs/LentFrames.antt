-- The messages that a framer lends.
use Rattle.std.proofs.Common.{◌≡◌, ℕ, List, subst, sym}
use Rattle.std.specs.List.{AllByRecursion}
use Rattle.tca_wire.specs.Frames.{IsFrame, frames_of, frames_of_both}
use Rattle.tca_wire.proofs.Framings.{each_both}
use Rattle.tca_wire.proofs.FramesOf.{is_stream}

pub both_frames : (a b : List ℕ) (ms : List (List ℕ)) → ms ≡ frames_of_both a b → AllByRecursion IsFrame ms
both_frames a b ms e = subst (λ (l : List (List ℕ)). AllByRecursion IsFrame l) (sym e) (each_both (frames_of a).0 (frames_of b).0 (is_stream a).each (is_stream b).each)
