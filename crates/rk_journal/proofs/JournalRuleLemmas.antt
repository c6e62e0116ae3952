-- Each kind of step keeps the rule.
use Rattle.std.proofs.Common.{◌≡◌, ◌≢◌, ℕ, zero, suc, ◌+◌, ◌%◌, ◌^◌, ◌<◌, ◌≤◌, true, false, true≢false, List, [], ◌∷◌, ◌++◌, length, set, get_or, refl, sym, ap, ◌∙◌, subst, ⊎_elim, arith, length-set, get_or-set_same, length-append}
use mathlib.Core.Option.{some, some-ne-none, some-injective}
use mathlib.Core.List.{IsPrefix}
use mathlib.Core.Logic.{dite}
use native.Mathlib.Decide.{ℕ_discrete}
use lib.ListN.{get_elem?}
use Rattle.atomic_table.specs.Table.{State, Me, step, keeps, stepped, opening, Allows, Splits, Joins}
use Rattle.atomic_table.proofs.Lists.{at_set, at_snoc, set_here, at_longer, set_else}
use Rattle.rk_model.specs.declared.entry.Entry.{Entry}
use Rattle.rk_journal.specs.declared.views.Noted.{Noted}
use Rattle.rk_journal.specs.declared.views.Known.{Known}
use Rattle.rk_model.specs.Lists.{times}
use Rattle.rk_journal.specs.Logs.{noted, Quiet}
use Rattle.rk_journal.specs.JournalRule.{Kept, Fits, Appends, Looks, writer, holder, spent, first_key, later_keys, without_first, with_first, with_none, joined}
use Rattle.rk_model.proofs.CountLemmas.{times-append}
use Rattle.rk_model.specs.declared.keys.TheConstants.{KEYS}
use Rattle.rk_model.specs.Keys.{all_keys}
use Rattle.rk_journal.proofs.LogLemmas.{prefix_self, prefix_more, quiet_self, quiet_at, quiet_more}
use Rattle.rk_journal.proofs.KnownKeyLemmas.{carried_set, carried_snoc, carried_two, keys_once}

off : false ≡ true → ⊥
off e = true≢false (sym e)

-- a view that stands for no more than a beginning and its keys
holds_front : (owner : ℕ) (log : List Noted) (by : ℕ) (front : List Noted) (ks : List ℕ) → IsPrefix front log → ((k : ℕ) → 0 < times k ks → Quiet k front log) → Fits owner log by (holder front ks)
holds_front owner log by front ks pre quiet = record { owns = λ o. absurd (off o); begins = pre; quiet = quiet; old = tt }

pub begins : Kept (opening (0 ∷ []) [] (writer [] all_keys))
begins = record {
  owner = 0;
  log = [];
  wide = refl;
  word = refl;
  owned = (writer [] all_keys, refl, refl);
  each = one;
  once = λ k. let e = keys_once k 0 KEYS in omega (arith, e);
}
  where
    fits : Fits 0 [] 0 (writer [] all_keys)
    fits = record { owns = λ _. (refl, refl); begins = prefix_self []; quiet = λ k _. quiet_self k []; old = tt }

    one : (by : ℕ) (v : Known) → get_elem? (writer [] all_keys ∷ []) by ≡ some v → Fits 0 [] by v
    one zero v e = subst (Fits 0 [] 0) (some-injective _ _ e) fits
    one (suc by) v e = absurd (some-ne-none v (sym e))

abbrev St : Type 0
St = State (Unit {0}) Known

-- the views of the others stay, and one becomes w
each_set : (owner : ℕ) (log : List Noted) (views : List Known) (by : ℕ) (w : Known) → ((j : ℕ) (u : Known) → j ≢ by → get_elem? views j ≡ some u → Fits owner log j u) → Fits owner log by w
    → (j : ℕ) (u : Known) → get_elem? (set views by w) j ≡ some u → Fits owner log j u
each_set owner log views by w others mine j u e =
    ⊎_elim
    (λ (x : (j ≡ by) × (w ≡ u)). subst (λ (y : ℕ × Known). Fits owner log y.0 y.1) (λ i. (sym x.0 i, x.1 i)) mine)
    (λ (x : (j ≢ by) × (get_elem? views j ≡ some u)). others j u x.0 x.1)
    (at_set views by j w u e)

in_range : (views : List Known) (i : ℕ) (v : Known) → get_elem? views i ≡ some v → i < length views
in_range [] i v e = absurd (some-ne-none v (sym e))
in_range (x ∷ xs) zero v e = omega arith
in_range (x ∷ xs) (suc i) v e = let h = in_range xs i v e in omega (arith, h)

-- the owner's view is still there when a view of the owner's kind is put in the owner's place
owned_set : (views : List Known) (owner by : ℕ) (v w : Known) → by ≡ owner → get_elem? views by ≡ some v → w.owns ≡ true → (u : Known) × (get_elem? (set views by w) owner ≡ some u) × (u.owns ≡ true)
owned_set views owner by v w same at owns = (w, subst (λ (s : ℕ). get_elem? (set views by w) s ≡ some w) same (set_here views by w (in_range views by v at)), owns)

-- whoever changes, the owner's view is there
owned_kept : (s : St) (kept : Kept s) (id : ℕ) (v w : Known) → get_elem? s.views id ≡ some v → w.owns ≡ v.owns → (u : Known) × (get_elem? (set s.views id w) kept.owner ≡ some u) × (u.owns ≡ true)
owned_kept s kept id v w at same = dite (ℕ_discrete kept.owner id)
    (λ e. let o = kept.owned in let is : o.0 ≡ v = some-injective o.0 v (sym o.1 ∙ (ap (get_elem? s.views) e ∙ at)) in owned_set s.views kept.owner id v w (sym e) at (same ∙ (ap (λ (u : Known). u.owns) (sym is) ∙ o.2)))
    (λ ne. let o = kept.owned in (o.0, set_else s.views id kept.owner w ne ∙ o.1, o.2))

small_mod : (n : ℕ) → n + 1 < 2 ^ 64 → (n + 1) % 2 ^ 64 ≡ n + 1
small_mod n h = omega arith

pub appends : (slots id : ℕ) (log : List Noted) (ks : List ℕ) (e : Entry) (c : List (ℕ × Unit {0})) → length log + 1 < 2 ^ 64
    → Allows Kept slots id (writer log ks, c) 0 (λ n. (n + 1) % 2 ^ 64) (Appends e (step slots 0 1 0 mathlib.Core.Option.none) (writer log ks, c))
appends slots id log ks e c room s kept long at small =
    let v = writer log ks in
    let new = noted e ks in
    let w = writer (log ++ new ∷ []) ks in
    let mine = kept.each id v at in
    let own = mine.owns refl in
    let whole : log ++ new ∷ [] ≡ kept.log ++ new ∷ [] = ap (λ l. l ++ new ∷ []) own.1 in
    let len : length log ≡ length kept.log = ap length own.1 in
    let n : (get_or s.words 0 0 + 1) % 2 ^ 64 ≡ length (kept.log ++ new ∷ []) = small_mod (get_or s.words 0 0) (omega (arith, kept.word, len)) ∙ omega (arith, kept.word, length-append kept.log (new ∷ [])) in (
      w,
      keeps,
      tt,
      record {
        owner = kept.owner;
        log = kept.log ++ new ∷ [];
        wide = length-set s.words 0 _ ∙ kept.wide;
        word = get_or-set_same s.words 0 _ 0 (omega (arith, kept.wide)) ∙ n;
        owned = owned_set s.views kept.owner id v w own.0 at refl;
        each = each_set kept.owner (kept.log ++ new ∷ []) s.views id w
            (λ j u apart there.
            let f = kept.each j u there in
            record {
              owns = λ o. absurd (apart ((f.owns o).0 ∙ sym own.0));
              begins = prefix_more u.list kept.log (new ∷ []) f.begins;
              quiet = λ k has. quiet_more k u.list kept.log new (let two = carried_two k s.views id j v u apart at there in let o = kept.once k in omega (arith, two, o, has)) (f.quiet k has);
              old = f.old;
            })
            (record {
              owns = λ _. (own.0, whole);
              begins = subst (λ (l : List Noted). IsPrefix (log ++ new ∷ []) l) whole (prefix_self (log ++ new ∷ []));
              quiet = λ k _. quiet_at k (log ++ new ∷ []) (kept.log ++ new ∷ []) whole;
              old = tt;
            });
        once = λ k. let t = carried_set k s.views id v w at in let o = kept.once k in omega (arith, t, o);
      },
      refl,
    )

-- the rule, where one view changes and the history stays
stays : (s : St) (kept : Kept s) (n id : ℕ) (v w : Known) (c : List (ℕ × Unit {0})) → get_elem? s.views id ≡ some v → get_or s.words 0 0 ≡ n → w.owns ≡ v.owns
    → ((k : ℕ) → times k w.keys ≤ times k v.keys) → Fits kept.owner kept.log id w → Kept (stepped s 0 n id c w keeps)
stays s kept n id v w c at same owns fewer fits = record {
  owner = kept.owner;
  log = kept.log;
  wide = length-set s.words 0 n ∙ kept.wide;
  word = get_or-set_same s.words 0 n 0 (omega (arith, kept.wide)) ∙ (sym same ∙ kept.word);
  owned = owned_kept s kept id v w at owns;
  each = each_set kept.owner kept.log s.views id w (λ j u _ there. kept.each j u there) fits;
  once = λ k. let t = carried_set k s.views id v w at in let o = kept.once k in let f = fewer k in omega (arith, t, o, f);
}

pub looks : (slots id : ℕ) (v : Known) (c : List (ℕ × Unit {0})) → v.owns ≡ true → Allows Kept slots id (v, c) 0 (λ n. n) (Looks (step slots 0 0 0 mathlib.Core.Option.none) (v, c))
looks slots id v c owns s kept long at small =
    let f = kept.each id v at in
    let w = writer v.list v.keys in (
      w,
      keeps,
      tt,
      stays s kept (get_or s.words 0 0) id v w c at refl (sym owns) (λ k. omega arith) (record { owns = λ _. f.owns owns; begins = f.begins; quiet = f.quiet; old = tt }),
      (refl, f.old),
    )

-- a view is cut in two, and a new one comes behind
cut : (s : St) (kept : Kept s) (id : ℕ) (v w r : Known) → get_elem? s.views id ≡ some v → w.owns ≡ v.owns → ((k : ℕ) → times k w.keys + times k r.keys ≤ times k v.keys) → Fits kept.owner kept.log id w
    → ((j : ℕ) → Fits kept.owner kept.log j r) → Kept record { words = s.words; homes = s.homes; views = set s.views id w ++ r ∷ [] }
cut s kept id v w r at owns fewer fits fresh = record {
  owner = kept.owner;
  log = kept.log;
  wide = kept.wide;
  word = kept.word;
  owned = let o = owned_kept s kept id v w at owns in (o.0, at_longer (set s.views id w) (r ∷ []) kept.owner o.0 o.1, o.2);
  each = λ j u there. ⊎_elim
      (λ was. each_set kept.owner kept.log s.views id w (λ i x _ e. kept.each i x e) fits j u was)
      (λ (same : r ≡ u). subst (Fits kept.owner kept.log j) same (fresh j))
      (at_snoc (set s.views id w) r u j there);
  once = λ k. let t = carried_set k s.views id v w at in let n = carried_snoc k (set s.views id w) r in let o = kept.once k in let f = fewer k in omega (arith, t, n, o, f);
}

cut_keys : (k : ℕ) (ks : List ℕ) → times k (later_keys ks) + times k (first_key ks) ≡ times k ks
cut_keys k [] = refl
cut_keys k (x ∷ xs) = omega arith

pub splits_first : (id : ℕ) (v : Known) → Splits Kept id v (without_first v) (with_first v)
splits_first id v s kept at =
    let f = kept.each id v at in
    cut s kept id v (without_first v) (with_first v) at refl (λ k. let e = cut_keys k v.keys in omega (arith, e))
    (record { owns = f.owns; begins = f.begins; quiet = λ k has. f.quiet k (let e = cut_keys k v.keys in omega (arith, e, has)); old = f.old })
    (λ j. holds_front kept.owner kept.log j v.list (first_key v.keys) f.begins (λ k has. f.quiet k (let e = cut_keys k v.keys in omega (arith, e, has))))

pub splits_none : (id : ℕ) (v : Known) → Splits Kept id v v (with_none v)
splits_none id v s kept at =
    let f = kept.each id v at in
    cut s kept id v v (with_none v) at refl (λ k. omega arith) f (λ j. holds_front kept.owner kept.log j v.list [] f.begins (λ k has. absurd (omega (arith, has))))

-- the journal's view takes in a mark's. It had no old
pub joins : (id : ℕ) (log : List Noted) (ks : List ℕ) (other : ℕ) (w : Known) → w.owns ≡ false → Joins Kept id (writer log ks) other w (joined (writer log ks) w) spent
joins id log ks other w plain s kept at apart there =
    let v = writer log ks in
    let u = joined v w in
    let theirs : get_elem? s.views other ≡ some w = sym (set_else s.views id other u apart) ∙ there in
    let f = kept.each id v at in
    let own = f.owns refl in
    let g = kept.each other w theirs in
    let back : kept.log ≡ log = sym own.1 in
    record {
      owner = kept.owner;
      log = kept.log;
      wide = kept.wide;
      word = kept.word;
      owned = let o = owned_set s.views kept.owner id v u own.0 at refl in (o.0, set_else (set s.views id u) other kept.owner spent (λ e. apart (sym e ∙ sym own.0)) ∙ o.1, o.2);
      each = each_set kept.owner kept.log (set s.views id u) other spent
          (λ j x _ e. each_set kept.owner kept.log s.views id u (λ i y _ e'. kept.each i y e')
          (record {
            owns = λ _. own;
            begins = f.begins;
            quiet = λ k _. quiet_at k log kept.log own.1;
            old = (subst (λ (l : List Noted). IsPrefix w.list l) back g.begins, λ k has. subst (λ (l : List Noted). Quiet k w.list l) back (g.quiet k has));
          }) j x e)
          (holds_front kept.owner kept.log other [] [] (kept.log, refl) (λ k has. absurd (omega (arith, has))));
      once = λ k. let a = carried_set k s.views id v u at in let b = carried_set k (set s.views id u) other w spent there in let o = kept.once k in let t = times-append k w.keys ks in omega (arith, a, b, o, t);
    }

-- the steps, at a token whose view is known
pub appends_at : (slots id : ℕ) (me : Me (Unit {0}) Known) (e : Entry) → me ≡ (writer me.0.list me.0.keys, []) → length me.0.list + 1 < 2 ^ 64
    → Allows Kept slots id me 0 (λ n. (n + 1) % 2 ^ 64) (Appends e (step slots 0 1 0 mathlib.Core.Option.none) me)
appends_at slots id me e is room = subst (λ (m : Me (Unit {0}) Known). Allows Kept slots id m 0 (λ n. (n + 1) % 2 ^ 64) (Appends e (step slots 0 1 0 mathlib.Core.Option.none) m)) (sym is) (appends slots id me.0.list me.0.keys e [] room)

pub joins_at : (id : ℕ) (v : Known) (other : ℕ) (w : Known) → v ≡ writer v.list v.keys → w ≡ holder w.list w.keys → Joins Kept id v other w (joined v w) spent
joins_at id v other w is plain = subst (λ (u : Known). Joins Kept id u other w (joined u w) spent) (sym is) (joins id v.list v.keys other w (ap (λ u. u.owns) plain))
