-- What a session knows is a finite map, and stays one with each message.
use Rattle.std.proofs.Common.{◌≡◌, ℕ, suc, ◌+◌, ◌%◌, ◌^◌, ◌<◌, ◌≤◌, Bool, true, false, cond, not, ◌&&◌, List, [], ◌∷◌, ◌++◌, length, Option, Some, None, is_none, Result, Ok, Err, filter, nat_lt, refl, sym, ap, subst, ◌∙◌, arith}
use Rattle.std.specs.List.{IsDistinct, AllByRecursion}
use Rattle.std.specs.Map.{keys_of}
use Rattle.std.proofs.lemmas.Bool.Decides.{nat_tests}
use Rattle.tca_join.specs.Results.{◌>>=◌}
use Rattle.tca_templates.specs.declared.source.Source.{Source}
use Rattle.tca_wire.specs.declared.message.SetSpan.{SetSpan}
use Rattle.tca_templates.specs.declared.fault.DecodeFault.{DecodeFault}
use Rattle.tca_templates.specs.declared.fault.DecodeFault.TheVariants.{TooMany}
use Rattle.tca_templates.specs.Templates.{Key, Templates, TemplateView, same_key, define, withdraw, withdraw_all, stays, known}
use Rattle.tca_templates.specs.Specifiers.{ChangeView, AllGone, Gone, New, changed}
use Rattle.tca_templates.specs.Records.{FieldView, PlacedView, placed}
use Rattle.tca_templates.specs.Reading.{ReadMessage, before}
use Rattle.tca_templates.specs.TemplateSets.{IsTemplateRecord, after_changes}
use Rattle.tca_templates.specs.DataSets.{placed_behind}
use Rattle.tca_templates.specs.Parts.{InTurn}
use Rattle.tca_templates.specs.Sessions.{IsSession, of_others, ArePlaced, IsSet, TemplateSet, OptionsTemplateSet, Skipped, DataSet, Unplaced, Unread, AreSets, IsReading}
use Rattle.tca_templates.proofs.Choices.{refused, same_ok}
use Rattle.tca_templates.proofs.Keys.{same_is, back, on, clash, turned}
use Rattle.tca_templates.proofs.SessionLaws.{define_has, withdraw_has, filter_has}

-- no two of one domain and identifier
abbrev IsOnce : Templates → Type 0
IsOnce ts = IsDistinct same_key (keys_of ts)

abbrev HasFields : Key × TemplateView → Type 0
HasFields e = length e.1.specs ≤ 512

known_nil : (k : Key) → known k [] ≡ None
unfolding known
known_nil k = refl

known_cons : (k : Key) (e : Key × TemplateView) (es : Templates) → known k (e ∷ es) ≡ cond (same_key k e.0) (Some e.1) (known k es)
unfolding known
known_cons k e es = refl

define_nil : (k : Key) (t : TemplateView) → define k t [] ≡ (k, t) ∷ []
unfolding define
define_nil k t = refl

define_cons : (k : Key) (t : TemplateView) (e : Key × TemplateView) (es : Templates) → define k t (e ∷ es) ≡ cond (same_key k e.0) ((e.0, t) ∷ es) (e ∷ define k t es)
unfolding define
define_cons k t e es = refl

withdraw_nil : (k : Key) → withdraw k [] ≡ []
unfolding withdraw
withdraw_nil k = refl

withdraw_cons : (k : Key) (e : Key × TemplateView) (es : Templates) → withdraw k (e ∷ es) ≡ cond (same_key k e.0) es (e ∷ withdraw k es)
unfolding withdraw
withdraw_cons k e es = refl

-- no key of these is this one
absent : (k : Key) (ts : Templates) → AllByRecursion (λ (y : Key). same_key k y ≡ false) (keys_of ts) → known k ts ≡ None
absent k [] none = known_nil k
absent k (e ∷ es) none = known_cons k e es ∙ ap (λ z. cond z (Some e.1) (known k es)) none.0 ∙ absent k es none.1

lacking : (k : Key) (ts : Templates) → known k ts ≡ None → AllByRecursion (λ (y : Key). same_key k y ≡ false) (keys_of ts)
lacking k [] none = tt
lacking k (e ∷ es) none = go (λ m. lacking k es m) (same_key k e.0) refl (sym (known_cons k e es) ∙ none)
  where
    go : (known k es ≡ None → AllByRecursion (λ (y : Key). same_key k y ≡ false) (keys_of es)) → (b : Bool) → same_key k e.0 ≡ b
        → cond b (Some e.1) (known k es) ≡ None → (same_key k e.0 ≡ false) × AllByRecursion (λ (y : Key). same_key k y ≡ false) (keys_of es)
    go more true q m = absurd cc
    go more false q m = (q, more m)

none_once : IsDistinct same_key []
unfolding IsDistinct
none_once = tt

first_once : (e : Key × TemplateView) (es : Templates) → IsOnce (e ∷ es) → (known e.0 es ≡ None) × IsOnce es
unfolding IsDistinct
first_once e es once = (absent e.0 es once.0, once.1)

more_once : (k : Key) (t : TemplateView) (es : Templates) → known k es ≡ None → IsOnce es → IsOnce ((k, t) ∷ es)
unfolding IsDistinct
more_once k t es none once = (lacking k es none, once)

-- a definition changes what is known of its own key
pub known_define : (k j : Key) (t : TemplateView) (ts : Templates) → known j (define k t ts) ≡ cond (same_key j k) (Some t) (known j ts)
known_define k j t [] = ap (known j) (define_nil k t) ∙ known_cons j (k, t) []
known_define k j t (e ∷ es) =
    ap (known j) (define_cons k t e es) ∙ go (same_key k e.0) refl (same_key j k) refl (same_key j e.0) refl (known_define k j t es)
    ∙ ap (cond (same_key j k) (Some t)) (sym (known_cons j e es))
  where
    go : (b : Bool) → same_key k e.0 ≡ b → (c : Bool) → same_key j k ≡ c → (d : Bool) → same_key j e.0 ≡ d
        → known j (define k t es) ≡ cond c (Some t) (known j es)
        → known j (cond b ((e.0, t) ∷ es) (e ∷ define k t es)) ≡ cond c (Some t) (cond d (Some e.1) (known j es))
    go true p true q true r h = known_cons j (e.0, t) es ∙ ap (λ z. cond z (Some t) (known j es)) r
    go true p true q false r h = clash (same_key j e.0) (on j k e.0 q p) r
    go true p false q true r h = clash (same_key j k) (on j e.0 k r (back k e.0 p)) q
    go true p false q false r h = known_cons j (e.0, t) es ∙ ap (λ z. cond z (Some t) (known j es)) r
    go false p true q true r h = clash (same_key k e.0) (on k j e.0 (back j k q) r) p
    go false p false q true r h = known_cons j e (define k t es) ∙ ap (λ z. cond z (Some e.1) (known j (define k t es))) r
    go false p true q false r h = known_cons j e (define k t es) ∙ ap (λ z. cond z (Some e.1) (known j (define k t es))) r ∙ h
    go false p false q false r h = known_cons j e (define k t es) ∙ ap (λ z. cond z (Some e.1) (known j (define k t es))) r ∙ h

-- a known key keeps its place, and a new one goes last
pub define_order : (k : Key) (t : TemplateView) (ts : Templates) → keys_of (define k t ts) ≡ cond (is_none (known k ts)) (keys_of ts ++ k ∷ []) (keys_of ts)
define_order k t [] =
    let none : List Key = [] in
    ap (λ (us : Templates). keys_of us) (define_nil k t) ∙ ap (λ (o : Option TemplateView). cond (is_none o) (k ∷ []) none) (sym (known_nil k))
define_order k t (e ∷ es) =
    ap (λ (us : Templates). keys_of us) (define_cons k t e es) ∙ go (same_key k e.0) (define_order k t es)
    ∙ ap (λ (o : Option TemplateView). cond (is_none o) (keys_of (e ∷ es) ++ k ∷ []) (keys_of (e ∷ es))) (sym (known_cons k e es))
  where
    pushed : (b : Bool) (x y : List Key) → e.0 ∷ cond b x y ≡ cond b (e.0 ∷ x) (e.0 ∷ y)
    pushed true x y = refl
    pushed false x y = refl

    go : (b : Bool) → keys_of (define k t es) ≡ cond (is_none (known k es)) (keys_of es ++ k ∷ []) (keys_of es)
        → keys_of (cond b ((e.0, t) ∷ es) (e ∷ define k t es)) ≡ cond (is_none (cond b (Some e.1) (known k es))) (e.0 ∷ (keys_of es ++ k ∷ [])) (e.0 ∷ keys_of es)
    go true h = refl
    go false h = ap (λ (ks : List Key). e.0 ∷ ks) h ∙ pushed (is_none (known k es)) (keys_of es ++ k ∷ []) (keys_of es)

either_none : (b : Bool) (o : Option TemplateView) → o ≡ None → cond b None o ≡ None
either_none true o e = refl
either_none false o e = e

-- a withdrawal forgets its own key alone
pub known_withdraw : (k j : Key) (ts : Templates) → IsOnce ts → known j (withdraw k ts) ≡ cond (same_key j k) None (known j ts)
known_withdraw k j [] once = ap (known j) (withdraw_nil k) ∙ known_nil j ∙ sym (either_none (same_key j k) (known j []) (known_nil j))
known_withdraw k j (e ∷ es) once =
    ap (known j) (withdraw_cons k e es) ∙ go (same_key k e.0) refl (same_key j k) refl (same_key j e.0) refl (first_once e es once).0 (known_withdraw k j es (first_once e es once).1)
    ∙ ap (cond (same_key j k) None) (sym (known_cons j e es))
  where
    go : (b : Bool) → same_key k e.0 ≡ b → (c : Bool) → same_key j k ≡ c → (d : Bool) → same_key j e.0 ≡ d → known e.0 es ≡ None
        → known j (withdraw k es) ≡ cond c None (known j es)
        → known j (cond b es (e ∷ withdraw k es)) ≡ cond c None (cond d (Some e.1) (known j es))
    go true p true q d r n h = subst (λ (z : Key). known z es ≡ None) (sym (same_is j k q ∙ same_is k e.0 p)) n
    go true p false q true r n h = clash (same_key j k) (on j e.0 k r (back k e.0 p)) q
    go true p false q false r n h = refl
    go false p true q true r n h = clash (same_key k e.0) (on k j e.0 (back j k q) r) p
    go false p false q true r n h = known_cons j e (withdraw k es) ∙ ap (λ z. cond z (Some e.1) (known j (withdraw k es))) r
    go false p true q false r n h = known_cons j e (withdraw k es) ∙ ap (λ z. cond z (Some e.1) (known j (withdraw k es))) r ∙ h
    go false p false q false r n h = known_cons j e (withdraw k es) ∙ ap (λ z. cond z (Some e.1) (known j (withdraw k es))) r ∙ h

-- a withdrawal of all forgets those of its domain and kind
pub known_others : (domain : ℕ) (options : Bool) (j : Key) (ts : Templates) → IsOnce ts → known j (withdraw_all domain options ts) ≡ of_others domain options j (known j ts)
known_others domain options j [] once = known_nil j ∙ ap (of_others domain options j) (sym (known_nil j))
known_others domain options j (e ∷ es) once =
    go (stays domain options e) refl (same_key j e.0) refl (first_once e es once).0 (known_others domain options j es (first_once e es once).1)
    ∙ ap (of_others domain options j) (sym (known_cons j e es))
  where
    there : (b : Bool) → stays domain options e ≡ b → same_key j e.0 ≡ true → stays domain options (j, e.1) ≡ b
    there b p r = subst (λ (z : Key). stays domain options (z, e.1) ≡ b) (sym (same_is j e.0 r)) p

    go : (b : Bool) → stays domain options e ≡ b → (d : Bool) → same_key j e.0 ≡ d → known e.0 es ≡ None
        → known j (withdraw_all domain options es) ≡ of_others domain options j (known j es)
        → known j (cond b (e ∷ withdraw_all domain options es) (withdraw_all domain options es)) ≡ of_others domain options j (cond d (Some e.1) (known j es))
    go true p true r n h =
        known_cons j e (withdraw_all domain options es) ∙ ap (λ z. cond z (Some e.1) (known j (withdraw_all domain options es))) r
        ∙ ap (λ z. cond z (Some e.1) None) (sym (there true p r))
    go true p false r n h = known_cons j e (withdraw_all domain options es) ∙ ap (λ z. cond z (Some e.1) (known j (withdraw_all domain options es))) r ∙ h
    go false p true r n h =
        let gone : known j es ≡ None = subst (λ (z : Key). known z es ≡ None) (sym (same_is j e.0 r)) n in
        h ∙ ap (of_others domain options j) gone ∙ ap (λ z. cond z (Some e.1) None) (sym (there false p r))
    go false p false r n h = h

define_once : (k : Key) (t : TemplateView) (ts : Templates) → IsOnce ts → IsOnce (define k t ts)
define_once k t [] once = subst IsOnce (sym (define_nil k t)) (more_once k t [] (known_nil k) once)
define_once k t (e ∷ es) once = subst IsOnce (sym (define_cons k t e es)) (go (same_key k e.0) refl (first_once e es once) (define_once k t es (first_once e es once).1))
  where
    go : (b : Bool) → same_key k e.0 ≡ b → (known e.0 es ≡ None) × IsOnce es → IsOnce (define k t es) → IsOnce (cond b ((e.0, t) ∷ es) (e ∷ define k t es))
    go true p o others = more_once e.0 t es o.0 o.1
    go false p o others =
        more_once e.0 e.1 (define k t es) (known_define k e.0 t es ∙ ap (λ z. cond z (Some t) (known e.0 es)) (turned e.0 k ∙ p) ∙ o.0) others

withdraw_once : (k : Key) (ts : Templates) → IsOnce ts → IsOnce (withdraw k ts)
withdraw_once k [] once = subst IsOnce (sym (withdraw_nil k)) once
withdraw_once k (e ∷ es) once = subst IsOnce (sym (withdraw_cons k e es)) (go (same_key k e.0) (first_once e es once) (withdraw_once k es (first_once e es once).1))
  where
    go : (b : Bool) → (known e.0 es ≡ None) × IsOnce es → IsOnce (withdraw k es) → IsOnce (cond b es (e ∷ withdraw k es))
    go true o others = o.1
    go false o others = more_once e.0 e.1 (withdraw k es) (known_withdraw k e.0 es o.1 ∙ either_none (same_key e.0 k) (known e.0 es) o.0) others

others_once : (domain : ℕ) (options : Bool) (ts : Templates) → IsOnce ts → IsOnce (withdraw_all domain options ts)
others_once domain options [] once = once
others_once domain options (e ∷ es) once = go (stays domain options e) (first_once e es once) (others_once domain options es (first_once e es once).1)
  where
    go : (b : Bool) → (known e.0 es ≡ None) × IsOnce es → IsOnce (withdraw_all domain options es)
        → IsOnce (cond b (e ∷ withdraw_all domain options es) (withdraw_all domain options es))
    go true o others = more_once e.0 e.1 (withdraw_all domain options es) (known_others domain options e.0 es o.1 ∙ ap (of_others domain options e.0) o.0) others
    go false o others = others

define_fields : (k : Key) (t : TemplateView) (ts : Templates) → length t.specs ≤ 512 → AllByRecursion HasFields ts → AllByRecursion HasFields (define k t ts)
define_fields k t [] few all = subst (AllByRecursion HasFields) (sym (define_nil k t)) (few, tt)
define_fields k t (e ∷ es) few all = subst (AllByRecursion HasFields) (sym (define_cons k t e es)) (go (same_key k e.0) (define_fields k t es few all.1))
  where
    go : (b : Bool) → AllByRecursion HasFields (define k t es) → AllByRecursion HasFields (cond b ((e.0, t) ∷ es) (e ∷ define k t es))
    go true others = (few, all.1)
    go false others = (all.0, others)

withdraw_fields : (k : Key) (ts : Templates) → AllByRecursion HasFields ts → AllByRecursion HasFields (withdraw k ts)
withdraw_fields k [] all = subst (AllByRecursion HasFields) (sym (withdraw_nil k)) tt
withdraw_fields k (e ∷ es) all = subst (AllByRecursion HasFields) (sym (withdraw_cons k e es)) (go (same_key k e.0) (withdraw_fields k es all.1))
  where
    go : (b : Bool) → AllByRecursion HasFields (withdraw k es) → AllByRecursion HasFields (cond b es (e ∷ withdraw k es))
    go true others = all.1
    go false others = (all.0, others)

filter_fields : (p : Key × TemplateView → Bool) (ts : Templates) → AllByRecursion HasFields ts → AllByRecursion HasFields (filter p ts)
filter_fields p [] all = tt
filter_fields p (e ∷ es) all = go (p e) (filter_fields p es all.1)
  where
    go : (b : Bool) → AllByRecursion HasFields (filter p es) → AllByRecursion HasFields (cond b (e ∷ filter p es) (filter p es))
    go true others = (all.0, others)
    go false others = others

-- one more at most
length_define : (k : Key) (t : TemplateView) (ts : Templates) → length (define k t ts) ≤ length ts + 1
length_define k t [] = subst (λ (us : Templates). length us ≤ 1) (sym (define_nil k t)) (omega arith)
length_define k t (e ∷ es) = subst (λ (us : Templates). length us ≤ length (e ∷ es) + 1) (sym (define_cons k t e es)) (go (same_key k e.0) (length_define k t es))
  where
    go : (b : Bool) → length (define k t es) ≤ length es + 1 → length (cond b ((e.0, t) ∷ es) (e ∷ define k t es)) ≤ length (e ∷ es) + 1
    go true h = omega arith
    go false h = omega (arith, h)

-- none more where the key is known
length_redefine : (k : Key) (t : TemplateView) (ts : Templates) → is_none (known k ts) ≡ false → length (define k t ts) ≡ length ts
length_redefine k t [] e = clash (is_none (known k [])) (ap (λ (o : Option TemplateView). is_none o) (known_nil k)) e
length_redefine k t (e ∷ es) n =
    ap length (define_cons k t e es) ∙ go (λ m. length_redefine k t es m) (same_key k e.0) (sym (ap (λ (o : Option TemplateView). is_none o) (known_cons k e es)) ∙ n)
  where
    go : (is_none (known k es) ≡ false → length (define k t es) ≡ length es) → (b : Bool) → is_none (cond b (Some e.1) (known k es)) ≡ false
        → length (cond b ((e.0, t) ∷ es) (e ∷ define k t es)) ≡ length (e ∷ es)
    go more true m = refl
    go more false m = ap suc (more m)

length_withdraw : (k : Key) (ts : Templates) → length (withdraw k ts) ≤ length ts
length_withdraw k [] = subst (λ (us : Templates). length us ≤ 0) (sym (withdraw_nil k)) (omega arith)
length_withdraw k (e ∷ es) = subst (λ (us : Templates). length us ≤ length (e ∷ es)) (sym (withdraw_cons k e es)) (go (same_key k e.0) (length_withdraw k es))
  where
    go : (b : Bool) → length (withdraw k es) ≤ length es → length (cond b es (e ∷ withdraw k es)) ≤ length (e ∷ es)
    go true h = omega arith
    go false h = omega (arith, h)

length_filter : (p : Key × TemplateView → Bool) (ts : Templates) → length (filter p ts) ≤ length ts
length_filter p [] = omega arith
length_filter p (e ∷ es) = go (p e) (length_filter p es)
  where
    go : (b : Bool) → length (filter p es) ≤ length es → length (cond b (e ∷ filter p es) (filter p es)) ≤ length (e ∷ es)
    go true h = omega (arith, h)
    go false h = omega (arith, h)

-- a definition that isn't refused has room
room : (k : Key) (t : TemplateView) (ts : Templates) → length ts ≤ 4096 → (is_none (known k ts) && not (nat_lt (length ts) 4096)) ≡ false → length (define k t ts) ≤ 4096
room k t ts few e = go (is_none (known k ts)) refl e
  where
    go : (b : Bool) → is_none (known k ts) ≡ b → (b && not (nat_lt (length ts) 4096)) ≡ false → length (define k t ts) ≤ 4096
    go true p e =
        let full : not (nat_lt (length ts) 4096) ≡ false = e in
        let less : length ts < 4096 = grind (arith, nat_tests, full) in
        omega (arith, length_define k t ts, less)
    go false p e = omega (arith, length_redefine k t ts p, few)

-- a session that knows nothing yet
pub session_opens : IsSession []
session_opens = record { once = none_once; few = omega arith; fields = tt; octets = tt }

changed_stays : (domain : ℕ) (options : Bool) (c : ChangeView) (own : List ℕ) (ts us : Templates) → IsTemplateRecord options c own → IsSession ts
    → changed domain options ts c ≡ Ok us → IsSession us
changed_stays domain options AllGone own ts us p s e = subst IsSession (same_ok _ us e) (record {
  once = others_once domain options ts s.once;
  few = omega (arith, length_filter (stays domain options) ts, s.few);
  fields = filter_fields (stays domain options) ts s.fields;
  octets = filter_has (stays domain options) ts s.octets;
})
changed_stays domain options (Gone id) own ts us p s e = subst IsSession (same_ok _ us e) (record {
  once = withdraw_once (domain, id) ts s.once;
  few = omega (arith, length_withdraw (domain, id) ts, s.few);
  fields = withdraw_fields (domain, id) ts s.fields;
  octets = withdraw_has (domain, id) ts s.octets;
})
changed_stays domain options (New id specs) own ts us p s e =
    let key : Key = (domain, id) in
    let t : TemplateView = record { options = options; specs = specs } in
    let a = refused (is_none (known key ts) && not (nat_lt (length ts) 4096)) TooMany _ us e in
    subst IsSession (same_ok _ us a.1) (record {
      once = define_once key t ts s.once;
      few = room key t ts s.few a.0;
      fields = define_fields key t ts p.most s.fields;
      octets = define_has key t ts p.some s.octets;
    })

after_stays : (domain : ℕ) (options : Bool) (cs : List ChangeView) (records : List ℕ) (ts us : Templates) → InTurn (IsTemplateRecord options) cs records → IsSession ts
    → after_changes domain options ts cs ≡ Ok us → IsSession us
after_stays domain options [] records ts us p s e = subst IsSession (same_ok ts us e) s
after_stays domain options (c ∷ cs) records ts us p s e = go (λ vs h k. after_stays domain options cs p.rest vs us p.behind h k) (changed domain options ts c) refl
  where
    go : ((vs : Templates) → IsSession vs → after_changes domain options vs cs ≡ Ok us → IsSession us)
        → (r : Result Templates DecodeFault) → changed domain options ts c ≡ r → IsSession us
    go more (Err f) k = let bad : Err f ≡ Ok us = sym (ap (λ (x : Result Templates DecodeFault). x >>= (λ vs. after_changes domain options vs cs)) k) ∙ e in absurd cc
    go more (Ok vs) k = more vs (changed_stays domain options c p.own ts vs p.is s k) (sym (ap (λ (x : Result Templates DecodeFault). x >>= (λ vs. after_changes domain options vs cs)) k) ∙ e)

set_stays : (h : Source) (octets : List ℕ) (given after : ReadMessage) (s : SetSpan) → IsSet h octets given after s → IsSession given.templates → IsSession after.templates
set_stays h octets given after s (TemplateSet two ts p is) ok =
    subst (λ (x : ReadMessage). IsSession x.templates) (sym is) (after_stays h.domain false p.changes p.records given.templates ts p.each ok p.effect)
set_stays h octets given after s (OptionsTemplateSet three ts p is) ok =
    subst (λ (x : ReadMessage). IsSession x.templates) (sym is) (after_stays h.domain true p.changes p.records given.templates ts p.each ok p.effect)
set_stays h octets given after s (Skipped small not2 not3 is) ok = subst (λ (x : ReadMessage). IsSession x.templates) (sym is) ok
set_stays h octets given after s (DataSet least none t k records p is) ok = subst (λ (x : ReadMessage). IsSession x.templates) (sym is) ok
set_stays h octets given after s (Unplaced least none k is) ok = subst (λ (x : ReadMessage). IsSession x.templates) (sym is) ok
set_stays h octets given after s (Unread least id u is) ok = subst (λ (x : ReadMessage). IsSession x.templates) (sym is) ok

sets_stay : (h : Source) (octets : List ℕ) (given : ReadMessage) (ss : List SetSpan) (after : ReadMessage) → AreSets h octets given ss after → IsSession given.templates → IsSession after.templates
sets_stay h octets given [] after p ok = subst (λ (x : ReadMessage). IsSession x.templates) (sym p) ok
sets_stay h octets given (s ∷ ss) after p ok = sets_stay h octets p.next ss after p.others (set_stays h octets given p.next s p.first ok)

pub session_stays : (ts : Templates) (h : Source) (octets : List ℕ) (ss : List SetSpan) (given : ReadMessage) → IsSession ts → IsReading ts h octets ss given → IsSession given.templates
session_stays ts h octets ss given ok p = sets_stay h octets (before ts) ss given p ok

placed_last : (h : Source) (i : ℕ) (rs : List PlacedView) (r : PlacedView) → ArePlaced h i rs → r.session ≡ h.session → r.domain ≡ h.domain → r.place ≡ (h.sequence + (i + length rs)) % 2 ^ 32
    → ArePlaced h i (rs ++ r ∷ [])
placed_last h i [] r all s d p =
    let e : i + 0 ≡ i = omega arith in
    (s, d, p ∙ ap (λ n. (h.sequence + n) % 2 ^ 32) e, tt)
placed_last h i (x ∷ xs) r all s d p =
    let e : i + suc (length xs) ≡ (i + 1) + length xs = omega arith in
    (all.0, all.1, all.2, placed_last h (i + 1) xs r all.3 s d (p ∙ ap (λ n. (h.sequence + n) % 2 ^ 32) e))

placed_all : (h : Source) (options : Bool) (front : List PlacedView) (rs : List (List FieldView)) → ArePlaced h 0 front → ArePlaced h 0 (placed_behind h options front rs)
placed_all h options front [] all = all
placed_all h options front (r ∷ rs) all =
    let e : length front ≡ 0 + length front = omega arith in
    placed_all h options (front ++ placed h options front r ∷ []) rs (placed_last h 0 front (placed h options front r) all refl refl (ap (λ n. (h.sequence + n) % 2 ^ 32) e))

set_places : (h : Source) (octets : List ℕ) (given after : ReadMessage) (s : SetSpan) → IsSet h octets given after s → ArePlaced h 0 given.records → ArePlaced h 0 after.records
set_places h octets given after s (TemplateSet two ts p is) all = subst (λ (x : ReadMessage). ArePlaced h 0 x.records) (sym is) all
set_places h octets given after s (OptionsTemplateSet three ts p is) all = subst (λ (x : ReadMessage). ArePlaced h 0 x.records) (sym is) all
set_places h octets given after s (Skipped small not2 not3 is) all = subst (λ (x : ReadMessage). ArePlaced h 0 x.records) (sym is) all
set_places h octets given after s (DataSet least none t k records p is) all = subst (λ (x : ReadMessage). ArePlaced h 0 x.records) (sym is) (placed_all h t.options given.records records all)
set_places h octets given after s (Unplaced least none k is) all = subst (λ (x : ReadMessage). ArePlaced h 0 x.records) (sym is) all
set_places h octets given after s (Unread least id u is) all = subst (λ (x : ReadMessage). ArePlaced h 0 x.records) (sym is) all

sets_places : (h : Source) (octets : List ℕ) (given : ReadMessage) (ss : List SetSpan) (after : ReadMessage) → AreSets h octets given ss after → ArePlaced h 0 given.records → ArePlaced h 0 after.records
sets_places h octets given [] after p all = subst (λ (x : ReadMessage). ArePlaced h 0 x.records) (sym p) all
sets_places h octets given (s ∷ ss) after p all = sets_places h octets p.next ss after p.others (set_places h octets given p.next s p.first all)

pub reading_places : (ts : Templates) (h : Source) (octets : List ℕ) (ss : List SetSpan) (given : ReadMessage) → IsReading ts h octets ss given → ArePlaced h 0 given.records
reading_places ts h octets ss given p = sets_places h octets (before ts) ss given p tt
