-- The words of inputs, and what each of them asks for.
use Rattle.std.proofs.Common.{◌≡◌, ◌∙◌, ◌+◌, ◌<◌, ℕ, List, [], ◌∷◌, ◌++◌, length, map, take, get_or, ap, sym, subst}
use Rattle.std.proofs.lemmas.List.{take_more, map-append}
use Rattle.std.proofs.lemmas.Slice.Zip.{AllZip-long}
use Rattle.std.specs.Borrow.{Bor}
use Rattle.tca_ingest.proofs.Collecting.{zip_push}
use Rattle.tca_report.specs.declared.input.Input.{Input}
use Rattle.tca_program.specs.Words.{AreAsked, HaveSessions, IsSplit, texts}
use Rattle.tca_program.specs.declared.word.Asked.{Asked}

-- one word more
pub asked_more : (words : List (Bor (List ℕ))) (n : ℕ) (d : Bor (List ℕ)) (all more : List Asked) (one : Asked) → n < length words
    → IsSplit (get_or words n d).now one.session one.path.now → more ≡ all ++ one ∷ [] → AreAsked (texts (take n words)) all → AreAsked (texts (take (n + 1) words)) more
asked_more words n d all more one low split is so_far =
    let longer : texts (take (n + 1) words) ≡ texts (take n words) ++ (get_or words n d).now ∷ [] = ap texts (take_more words n d low) ∙ map-append (λ (b : Bor (List ℕ)). b.now) (take n words) (_ ∷ []) in
    let pushed = zip_push (λ (w : List ℕ) (a : Asked). IsSplit w a.session a.path.now) (texts (take n words)) all (get_or words n d).now one so_far split in
    subst (AreAsked (texts (take (n + 1) words))) (sym is) (subst (λ (ws : List (List ℕ)). AreAsked ws (all ++ one ∷ [])) (sym longer) pushed)

-- inputs with the sessions that are asked for have those of the words
pub have_sessions : (words : List (List ℕ)) (all : List Asked) (inputs : List Input) → AreAsked words all → map (λ (i : Input). i.session) inputs ≡ map (λ (a : Asked). a.session) all → HaveSessions words inputs
have_sessions [] [] [] h same = tt
have_sessions [] [] (i ∷ is) h same = absurd cc
have_sessions [] (a ∷ bs) is h same = absurd h
have_sessions (w ∷ ws) [] is h same = absurd h
have_sessions (w ∷ ws) (a ∷ bs) [] h same = absurd cc
have_sessions (w ∷ ws) (a ∷ bs) (i ∷ is) h same =
    let here : i.session ≡ a.session = cc same in
    let rest : map (λ (j : Input). j.session) is ≡ map (λ (b : Asked). b.session) bs = cc same in
    ((a.path.now, subst (λ n. IsSplit w n a.path.now) (sym here) h.0), have_sessions ws bs is h.1 rest)

-- as many inputs as words
pub as_many : (words : List (List ℕ)) (inputs : List Input) → HaveSessions words inputs → length inputs ≡ length words
as_many words inputs h = AllZip-long (λ (w : List ℕ) (i : Input). (path : List ℕ) × IsSplit w i.session path) words inputs h
