-- What is read of a message is what it is in its session, and nothing else is.
use Rattle.std.proofs.Common.{◌≡◌, ◌≢◌, ℕ, ◌+◌, ◌<◌, ◌≤◌, Bool, true, false, cond, List, [], ◌∷◌, length, Option, Some, None, Result, Ok, Err, refl, sym, ap, ap₂, subst, ◌∙◌, arith, inl, inr}
use Rattle.std.specs.Prelude.{nat_lt, ◌==◌, ◌&&◌, not, filter}
use Rattle.std.specs.Prelude.{IfOk}
use Rattle.std.specs.Option.{is_none}
use Rattle.tca_wire.proofs.Walking.{gives_ok}
use Rattle.std.proofs.lemmas.Bool.Decides.{nat_tests}
use Rattle.tca_join.specs.Results.{Gives, ◌>>=◌}
use Rattle.tca_wire.specs.Walks.{walk}
use Rattle.tca_templates.specs.declared.source.Source.{Source}
use Rattle.tca_wire.specs.declared.message.SetSpan.{SetSpan}
use Rattle.tca_templates.specs.declared.template.Template.{Template}
use Rattle.tca_templates.specs.declared.fault.DecodeFault.{DecodeFault}
use Rattle.tca_templates.specs.declared.fault.DecodeFault.TheVariants.{TooMany}
use Rattle.tca_templates.specs.Templates.{Key, Templates, TemplateView, same_key, define, withdraw, stays, known, shortest_of}
use Rattle.tca_templates.specs.Specifiers.{ChangeView, AllGone, Gone, New, changed}
use Rattle.tca_templates.specs.Records.{PlacedView, data_front}
use Rattle.tca_templates.specs.Reading.{ReadMessage, with_templates, with_records, body_of, data_of, set_of, sets_on, before, read_of}
use Rattle.tca_templates.specs.Fields.{SlotsView, entries_of, templates_of}
use Rattle.tca_templates.specs.TemplateSets.{IsTemplateRecord, after_changes, IsTemplateSet}
use Rattle.tca_templates.specs.Parts.{InTurn}
use Rattle.tca_templates.specs.Sessions.{HaveOctets, IsSet, TemplateSet, OptionsTemplateSet, Skipped, DataSet, Unplaced, Unread, AreSets, IsReading}
use Rattle.tca_templates.proofs.Choices.{chosen, refused, same_some, same_ok}
use Rattle.tca_templates.proofs.TemplateSetLaws.{template_set_found, template_set_only}
use Rattle.tca_templates.proofs.DataSetLaws.{data_set_found, data_set_only}

pub known_has : (k : Key) (ts : Templates) (t : TemplateView) → HaveOctets ts → known k ts ≡ Some t → 0 < shortest_of t.specs
unfolding known
known_has k [] t all e = absurd cc
known_has k (x ∷ xs) t all e = go (λ h. known_has k xs t all.1 h) (same_key k x.0) e
  where
    go : (known k xs ≡ Some t → 0 < shortest_of t.specs) → (b : Bool) → cond b (Some x.1) (known k xs) ≡ Some t → 0 < shortest_of t.specs
    go others true e = subst (λ (u : TemplateView). 0 < shortest_of u.specs) (same_some x.1 t e) all.0
    go others false e = others e

pub define_has : (k : Key) (t : TemplateView) (ts : Templates) → 0 < shortest_of t.specs → HaveOctets ts → HaveOctets (define k t ts)
unfolding define
define_has k t [] some all = (some, tt)
define_has k t (x ∷ xs) some all = go (define_has k t xs some all.1) (same_key k x.0)
  where
    go : HaveOctets (define k t xs) → (b : Bool) → HaveOctets (cond b ((x.0, t) ∷ xs) (x ∷ define k t xs))
    go others true = (some, all.1)
    go others false = (all.0, others)

pub withdraw_has : (k : Key) (ts : Templates) → HaveOctets ts → HaveOctets (withdraw k ts)
unfolding withdraw
withdraw_has k [] all = tt
withdraw_has k (x ∷ xs) all = go (withdraw_has k xs all.1) (same_key k x.0)
  where
    go : HaveOctets (withdraw k xs) → (b : Bool) → HaveOctets (cond b xs (x ∷ withdraw k xs))
    go others true = all.1
    go others false = (all.0, others)

pub filter_has : (p : Key × TemplateView → Bool) (ts : Templates) → HaveOctets ts → HaveOctets (filter p ts)
filter_has p [] all = tt
filter_has p (x ∷ xs) all = go (filter_has p xs all.1) (p x)
  where
    go : HaveOctets (filter p xs) → (b : Bool) → HaveOctets (cond b (x ∷ filter p xs) (filter p xs))
    go others true = (all.0, others)
    go others false = others

changed_has : (domain : ℕ) (options : Bool) (c : ChangeView) (own : List ℕ) (ts us : Templates) → IsTemplateRecord options c own → HaveOctets ts
    → changed domain options ts c ≡ Ok us → HaveOctets us
changed_has domain options AllGone own ts us p all e = subst HaveOctets (same_ok _ us e) (filter_has (stays domain options) ts all)
changed_has domain options (Gone id) own ts us p all e = subst HaveOctets (same_ok _ us e) (withdraw_has (domain, id) ts all)
changed_has domain options (New id specs) own ts us p all e =
    let a = refused (is_none (known (domain, id) ts) && not (nat_lt (length ts) 4096)) TooMany _ us e in
    subst HaveOctets (same_ok _ us a.1) (define_has (domain, id) (record { options = options; specs = specs }) ts p.some all)

after_has : (domain : ℕ) (options : Bool) (cs : List ChangeView) (records : List ℕ) (ts us : Templates) → InTurn (IsTemplateRecord options) cs records → HaveOctets ts
    → after_changes domain options ts cs ≡ Ok us → HaveOctets us
after_has domain options [] records ts us p all e = subst HaveOctets (same_ok ts us e) all
after_has domain options (c ∷ cs) records ts us p all e = go (λ vs h k. after_has domain options cs p.rest vs us p.behind h k) (changed domain options ts c) refl
  where
    go : ((vs : Templates) → HaveOctets vs → after_changes domain options vs cs ≡ Ok us → HaveOctets us)
        → (r : Result Templates DecodeFault) → changed domain options ts c ≡ r → HaveOctets us
    go more (Err f) k = let bad : Err f ≡ Ok us = sym (ap (λ (x : Result Templates DecodeFault). x >>= (λ vs. after_changes domain options vs cs)) k) ∙ e in absurd cc
    go more (Ok vs) k = more vs (changed_has domain options c p.own ts vs p.is all k) (sym (ap (λ (x : Result Templates DecodeFault). x >>= (λ vs. after_changes domain options vs cs)) k) ∙ e)

set_has : (domain : ℕ) (options : Bool) (ts us : Templates) (octets : List ℕ) → IsTemplateSet domain options ts us octets → HaveOctets ts → HaveOctets us
set_has domain options ts us octets p all = after_has domain options p.changes p.records ts us p.each all p.effect

-- the templates of a decoder have no empty records
entries_have : (entries : List (Key × Template)) → HaveOctets (entries_of entries)
entries_have [] = tt
entries_have (e ∷ es) = (omega (arith, e.1.right, e.1.some), entries_have es)

pub templates_have : (v : SlotsView) → HaveOctets (templates_of v)
templates_have v = entries_have v.known

-- what came of a set
pub record IsFound (h : Source) (octets : List ℕ) (given after : ReadMessage) (s : SetSpan) : Type 0 where
  pub set : IsSet h octets given after s
  pub have : HaveOctets after.templates

templates_holds : (given after : ReadMessage) (r : Result Templates DecodeFault) → with_templates given r ≡ Ok after → (ts : Templates) × (r ≡ Ok ts) × (after ≡ record given { templates = ts })
templates_holds given after (Ok ts) e = (ts, refl, sym (same_ok _ after e))
templates_holds given after (Err f) e = absurd cc

records_holds : (given after : ReadMessage) (r : Result (List PlacedView) DecodeFault) → with_records given r ≡ Ok after → (rs : List PlacedView) × (r ≡ Ok rs) × (after ≡ record given { records = rs })
records_holds given after (Ok rs) e = (rs, refl, sym (same_ok _ after e))
records_holds given after (Err f) e = absurd cc

data_found : (h : Source) (octets : List ℕ) (given after : ReadMessage) (s : SetSpan) → HaveOctets given.templates → 256 ≤ s.id
    → (u : Option ℕ) → given.unplaced ≡ u → (o : Option TemplateView) → known (h.domain, s.id) given.templates ≡ o
    → data_of h octets s given u o ≡ Ok after → IsFound h octets given after s
data_found h octets given after s all least (Some id) u o k e =
    let same : given ≡ after = same_ok given after e in
    record { set = Unread least id u (sym same); have = subst (λ (x : ReadMessage). HaveOctets x.templates) same all }
data_found h octets given after s all least None u None k e =
    let same : record given { unplaced = Some s.id } ≡ after = same_ok _ after e in
    record { set = Unplaced least u k (sym same); have = subst (λ (x : ReadMessage). HaveOctets x.templates) same all }
data_found h octets given after s all least None u (Some t) k e =
    let r = records_holds given after (walk (data_front h t) given.records (s.at + 4) (body_of octets s)) e in
    let some = known_has (h.domain, s.id) given.templates t all k in
    let p = data_set_found h t some given.records r.0 (s.at + 4) (body_of octets s) r.1 in
    record {
      set = DataSet least u t k p.records p.set (r.2 ∙ ap (λ (rs : List PlacedView). record given { records = rs }) p.is);
      have = subst (λ (x : ReadMessage). HaveOctets x.templates) (sym r.2) all;
    }

pub set_found : (h : Source) (octets : List ℕ) (given after : ReadMessage) (s : SetSpan) → HaveOctets given.templates → set_of h octets given s ≡ Ok after → IsFound h octets given after s
unfolding set_of
set_found h octets given after s all e = elim (chosen (s.id == 2) _ _ (Ok after) e) [
  | inl w ↦
      let two : s.id ≡ 2 = grind (arith, nat_tests, w.0) in
      let r = templates_holds given after _ w.1 in
      let p = template_set_found h.domain false given.templates r.0 (s.at + 4) (body_of octets s) r.1 in
      record { set = TemplateSet two r.0 p r.2; have = subst (λ (x : ReadMessage). HaveOctets x.templates) (sym r.2) (set_has h.domain false given.templates r.0 (body_of octets s) p all) }
  | inr v ↦ elim (chosen (s.id == 3) _ _ (Ok after) v.1) [
    | inl w ↦
        let three : s.id ≡ 3 = grind (arith, nat_tests, w.0) in
        let r = templates_holds given after _ w.1 in
        let p = template_set_found h.domain true given.templates r.0 (s.at + 4) (body_of octets s) r.1 in
        record { set = OptionsTemplateSet three r.0 p r.2; have = subst (λ (x : ReadMessage). HaveOctets x.templates) (sym r.2) (set_has h.domain true given.templates r.0 (body_of octets s) p all) }
    | inr u ↦ elim (chosen (nat_lt s.id 256) (Ok (record given { skipped = given.skipped + 1 })) _ (Ok after) u.1) [
      | inl w ↦
          let small : s.id < 256 = grind (arith, nat_tests, w.0) in
          let not2 : s.id ≢ 2 = grind (arith, nat_tests, v.0) in
          let not3 : s.id ≢ 3 = grind (arith, nat_tests, u.0) in
          let same : record given { skipped = given.skipped + 1 } ≡ after = same_ok _ after w.1 in
          record { set = Skipped small not2 not3 (sym same); have = subst (λ (x : ReadMessage). HaveOctets x.templates) same all }
      | inr w ↦
          let least : 256 ≤ s.id = grind (arith, nat_tests, w.0) in
          data_found h octets given after s all least given.unplaced refl (known (h.domain, s.id) given.templates) refl w.1
    ]
  ]
]

sets_found : (h : Source) (octets : List ℕ) (given : ReadMessage) (ss : List SetSpan) (after : ReadMessage) → HaveOctets given.templates → sets_on h octets given ss ≡ Ok after → AreSets h octets given ss after
unfolding sets_on
sets_found h octets given [] after all e = sym (same_ok given after e)
sets_found h octets given (s ∷ ss) after all e = go (λ next have k. sets_found h octets next ss after have k) (set_of h octets given s) refl e
  where
    go : ((next : ReadMessage) → HaveOctets next.templates → sets_on h octets next ss ≡ Ok after → AreSets h octets next ss after)
        → (r : Result ReadMessage DecodeFault) → set_of h octets given s ≡ r → (r >>= (λ more. sets_on h octets more ss)) ≡ Ok after
        → AreSets h octets given (s ∷ ss) after
    go more (Err f) k e = absurd cc
    go more (Ok next) k e =
        let f = set_found h octets given next s all k in
        record { next = next; first = f.set; others = more next f.have e }

pub reading_found : (ts : Templates) (h : Source) (octets : List ℕ) (ss : List SetSpan) (after : ReadMessage) → HaveOctets ts
    → read_of ts h octets ss ≡ Ok after → IsReading ts h octets ss after
reading_found ts h octets ss after all e = sets_found h octets (before ts) ss after all e

pub set_only : (h : Source) (octets : List ℕ) (given after : ReadMessage) (s : SetSpan) → IsSet h octets given after s → set_of h octets given s ≡ Ok after
unfolding set_of
set_only h octets given after s (TemplateSet two ts p is) =
    let t1 : (s.id == 2) ≡ true = grind (arith, nat_tests, two) in
    rw t1 (ap (with_templates given) (template_set_only h.domain false given.templates ts (s.at + 4) (body_of octets s) p) ∙ ap (λ (x : ReadMessage). Ok x) (sym is))
set_only h octets given after s (OptionsTemplateSet three ts p is) =
    let t1 : (s.id == 2) ≡ false = grind (arith, nat_tests, three) in
    let t2 : (s.id == 3) ≡ true = grind (arith, nat_tests, three) in
    rw (t1, t2) (ap (with_templates given) (template_set_only h.domain true given.templates ts (s.at + 4) (body_of octets s) p) ∙ ap (λ (x : ReadMessage). Ok x) (sym is))
set_only h octets given after s (Skipped small not2 not3 is) =
    let t1 : (s.id == 2) ≡ false = grind (arith, nat_tests, not2) in
    let t2 : (s.id == 3) ≡ false = grind (arith, nat_tests, not3) in
    let t3 : nat_lt s.id 256 ≡ true = grind (arith, nat_tests, small) in
    rw (t1, t2, t3) (ap (λ (x : ReadMessage). Ok x) (sym is))
set_only h octets given after s (DataSet least none t k records p is) =
    let t1 : (s.id == 2) ≡ false = grind (arith, nat_tests, least) in
    let t2 : (s.id == 3) ≡ false = grind (arith, nat_tests, least) in
    let t3 : nat_lt s.id 256 ≡ false = grind (arith, nat_tests, least) in
    rw (t1, t2, t3) (ap₂ (λ u o. data_of h octets s given u o) none k ∙ ap (with_records given) (data_set_only h t records given.records (s.at + 4) (body_of octets s) p) ∙ ap (λ (x : ReadMessage). Ok x) (sym is))
set_only h octets given after s (Unplaced least none k is) =
    let t1 : (s.id == 2) ≡ false = grind (arith, nat_tests, least) in
    let t2 : (s.id == 3) ≡ false = grind (arith, nat_tests, least) in
    let t3 : nat_lt s.id 256 ≡ false = grind (arith, nat_tests, least) in
    rw (t1, t2, t3) (ap₂ (λ u o. data_of h octets s given u o) none k ∙ ap (λ (x : ReadMessage). Ok x) (sym is))
set_only h octets given after s (Unread least id u is) =
    let t1 : (s.id == 2) ≡ false = grind (arith, nat_tests, least) in
    let t2 : (s.id == 3) ≡ false = grind (arith, nat_tests, least) in
    let t3 : nat_lt s.id 256 ≡ false = grind (arith, nat_tests, least) in
    rw (t1, t2, t3) (ap (λ u. data_of h octets s given u (known (h.domain, s.id) given.templates)) u ∙ ap (λ (x : ReadMessage). Ok x) (sym is))

sets_only : (h : Source) (octets : List ℕ) (given : ReadMessage) (ss : List SetSpan) (after : ReadMessage) → AreSets h octets given ss after → sets_on h octets given ss ≡ Ok after
unfolding sets_on
sets_only h octets given [] after p = ap (λ (x : ReadMessage). Ok x) (sym p)
sets_only h octets given (s ∷ ss) after p =
    ap (λ (x : Result ReadMessage DecodeFault). x >>= (λ more. sets_on h octets more ss)) (set_only h octets given p.next s p.first) ∙ sets_only h octets p.next ss after p.others

pub reading_only : (ts : Templates) (h : Source) (octets : List ℕ) (ss : List SetSpan) (after : ReadMessage) → IsReading ts h octets ss after → read_of ts h octets ss ≡ Ok after
reading_only ts h octets ss after p = sets_only h octets (before ts) ss after p

-- what a call returned, where it gives what the definition gives
pub reading_holds : {X : Type 0} (memory : DecodeFault) (view : X → ReadMessage) (r : Result X DecodeFault) (ts : Templates) (h : Source) (octets : List ℕ) (ss : List SetSpan)
    → HaveOctets ts → Gives memory view r (read_of ts h octets ss) → IfOk r (λ x. IsReading ts h octets ss (view x))
reading_holds memory view r ts h octets ss all g = gives_ok memory view (λ given. IsReading ts h octets ss given) r (read_of ts h octets ss) (λ given e. reading_found ts h octets ss given all e) g

pub reading_given : {X : Type 0} (memory : DecodeFault) (view : X → ReadMessage) (r : Result X DecodeFault) (ts : Templates) (h : Source) (octets : List ℕ) (ss : List SetSpan)
    → Gives memory view r (read_of ts h octets ss) → (given : ReadMessage) → IsReading ts h octets ss given → Gives memory view r (Ok given)
reading_given memory view r ts h octets ss g given p = subst (λ (given : Result ReadMessage DecodeFault). Gives memory view r given) (reading_only ts h octets ss given p) g
