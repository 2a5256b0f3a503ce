-- What the files of a capture's domains have in the end, and where the writing stopped.
use Rattle.std.proofs.Common.{◌≡◌, ℕ, Bool, true, false, cond, inl, inr, List, [], ◌++◌, Option, Some, None, refl, sym, ap, ◌∙◌, append-nil}
use Rattle.std.specs.Prelude.{option_map}
use Rattle.std.specs.List.{concat}
use Rattle.tca_wire.specs.Frames.{frames_of}
use Rattle.tca_split.specs.Parts.{domains_of, messages_of, part_of}
use Rattle.tca_split.specs.Surveys.{is_among}
use Rattle.tca_split.specs.Folders.{Files, CreatesOne, Creates}
use Rattle.tca_split.specs.Splits.{has_part, split_file, IsBegun, AreBegun}
use Rattle.tca_split.specs.inside.Buffering.{Kept, empty_for, StartsMaking, TakesPart, Takes, BeginsPart, Begins}
use Rattle.tca_split.proofs.DomainLists.{among_front}

same_list : (a b : List ℕ) → Some a ≡ Some b → a ≡ b
same_list a b e = cc

end_one : (ms : List (List ℕ)) (b : Bool) (k before made now after : Option (List ℕ)) → k ≡ cond b (Some []) None → CreatesOne b before made → TakesPart ms k made now after
    → ((l : List ℕ) → b ≡ true → now ≡ Some l → l ≡ []) → after ≡ cond b (Some (concat ms)) before
end_one ms true None before made now after e c t none = absurd cc
end_one ms true (Some kept) before made now after e c t none =
    let nothing : kept ≡ [] = same_list kept [] e in
    let all : concat ms ≡ t.0 = ap (λ (l : List ℕ). l ++ concat ms) (sym nothing) ∙ t.2 ∙ ap (λ (l : List ℕ). t.0 ++ l) (none t.1 refl t.3) ∙ append-nil t.0 in
    t.4 ∙ ap (option_map (λ xs. xs ++ t.0)) c.1 ∙ ap (λ (l : List ℕ). Some l) (sym all)
end_one ms false None before made now after e c t none = t.2 ∙ c
end_one ms false (Some kept) before made now after e c t none = absurd cc

-- at the end each file has its domain's messages
pub ends : (octets : List ℕ) (k m : Kept) (fs : Files) (x z : Option Files) → Creates (domains_of (frames_of octets).0) (Some fs) x → ((d : ℕ) → k d ≡ empty_for (domains_of (frames_of octets).0) d)
    → Takes (frames_of octets).0 k x m z → ((d : ℕ) (l : List ℕ) → has_part octets d ≡ true → m d ≡ Some l → l ≡ []) → (files : Files) × (z ≡ Some files) × ((d : ℕ) → files d ≡ split_file octets fs d)
ends octets k m fs None z c e t none = absurd c
ends octets k m fs (Some gs) None c e t none = absurd t
ends octets k m fs (Some gs) (Some hs) c e t none =
    (hs, refl, λ d. end_one (messages_of d (frames_of octets).0) (has_part octets d) (k d) (fs d) (gs d) (m d) (hs d) (e d) (c d) (t d) (none d))

begun_one : (octets : List ℕ) (d : ℕ) (b : Bool) (k before made after : Option (List ℕ)) → has_part octets d ≡ b → k ≡ cond b (Some []) None → CreatesOne b before made
    → BeginsPart (messages_of d (frames_of octets).0) k made after → IsBegun octets d before after
begun_one octets d true None before made after has e c t = absurd cc
begun_one octets d true (Some kept) before made after has e c t =
    let nothing : kept ≡ [] = same_list kept [] e in
    inr (has, c.0, t.0, t.1, t.3 ∙ ap (option_map (λ xs. xs ++ t.0)) c.1, ap (λ (l : List ℕ). l ++ part_of d octets) (sym nothing) ∙ t.2)
begun_one octets d false None before made after has e c t = inl (t ∙ c)
begun_one octets d false (Some kept) before made after has e c t = absurd cc

-- where the writing stopped
pub stopped : (octets : List ℕ) (k : Kept) (fs : Files) (x y : Option Files) → Creates (domains_of (frames_of octets).0) (Some fs) x → ((d : ℕ) → k d ≡ empty_for (domains_of (frames_of octets).0) d)
    → Begins (frames_of octets).0 k x y → AreBegun octets fs y
stopped octets k fs None y c e t = absurd c
stopped octets k fs (Some gs) None c e t = absurd t
stopped octets k fs (Some gs) (Some hs) c e t = (hs, refl, λ d. begun_one octets d (has_part octets d) (k d) (fs d) (gs d) (hs d) refl (e d) (c d) (t d))

made_one : (octets : List ℕ) (d : ℕ) (b : Bool) (before now : Option (List ℕ)) → (b ≡ true → has_part octets d ≡ true) → CreatesOne b before now → IsBegun octets d before now
made_one octets d true before now has c = inr (has refl, c.0, [], part_of d octets, c.1, refl)
made_one octets d false before now has c = inl c

making : (octets : List ℕ) (fs : Files) (made rest : List ℕ) (y : Option Files) → domains_of (frames_of octets).0 ≡ made ++ rest → Creates made (Some fs) y → AreBegun octets fs y
making octets fs made rest None e c = absurd c
making octets fs made rest (Some gs) e c = (gs, refl, λ d. made_one octets d (is_among d made) (fs d) (gs d) (λ p. ap (is_among d) e ∙ among_front made rest d p) (c d))

-- where the making of files stopped
pub making_stopped : (octets : List ℕ) (fs : Files) (y : Option Files) → StartsMaking (domains_of (frames_of octets).0) (Some fs) y → AreBegun octets fs y
making_stopped octets fs y s = making octets fs s.made s.rest y s.parts s.creates
