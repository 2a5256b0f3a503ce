-- Known bytes that grow in two steps.
use Rattle.std.proofs.Common.{◌∙◌, ◌+◌, ◌++◌, ℕ, sym, List, Option, Some, None, take, drop, take-add, ap, append_assoc}
use Rattle.std.specs.Io.KnownBytes.{Appends, Consumes}

appends_more : (a b c : Option (List ℕ)) (xs ys : List ℕ) → Appends a b xs → Appends b c ys → Appends a c (xs ++ ys)
appends_more None b c xs ys h k = tt
appends_more (Some p) None c xs ys h k = absurd h
appends_more (Some p) (Some q) None xs ys h k = absurd k
appends_more (Some p) (Some q) (Some r) xs ys h k = k ∙ ap (λ l. l ++ ys) h ∙ append_assoc p xs ys

pub appends_next : (a b c : Option (List ℕ)) (xs : List ℕ) (i n : ℕ) → Appends a b (take i xs) → Appends b c (take n (drop i xs)) → Appends a c (take (i + n) xs)
appends_next a b c xs i n h k = rw (take-add i n xs) (appends_more a b c (take i xs) (take n (drop i xs)) h k)

pub consumes_more : (a b c : Option (List ℕ)) (xs ys : List ℕ) → Consumes a b xs → Consumes b c ys → Consumes a c (xs ++ ys)
consumes_more None b c xs ys h k = tt
consumes_more (Some p) None c xs ys h k = absurd h
consumes_more (Some p) (Some q) None xs ys h k = absurd k
consumes_more (Some p) (Some q) (Some r) xs ys h k = h ∙ ap (λ l. xs ++ l) k ∙ sym (append_assoc xs ys r)
