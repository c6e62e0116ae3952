-- How parts lie: what a layout says of its part, and what changes keep of it.
use Rattle.std.proofs.Common.{◌≡◌, ℕ, zero, suc, ◌<◌, List, [], ◌∷◌, Bool, true, false, length, map, take, refl, sym, ap, ◌∙◌, get_or, set, ⊎_elim}
use Rattle.std.proofs.lemmas.Bool.{cases_lt}
use Rattle.std.proofs.lemmas.List.{get_or-map, get_or_past, length-map}
use Rattle.std.proofs.Math.Seq.{map-set_same}
use Rattle.rk_model.specs.declared.limits.TheConstants.{MOST_OBJECTS}
use Rattle.rk_model.specs.declared.state.Thread.{Thread}
use Rattle.rk_model.specs.Lists.{nth, with_nth}
use Rattle.rk_model.specs.State.{no_thread}
use Rattle.rk_model.specs.Directives.Objects.{has_begun}
use Rattle.rk_model.specs.Text.Scenarios.{cpus_in}
use Rattle.rk_parts.specs.declared.parts.ClusterPart.{ClusterPart}
use Rattle.rk_parts.specs.Holdings.{holdings}
use Rattle.rk_parts.specs.Joined.{placed_in, lives_in}
use Rattle.rk_parts.specs.Lent.{outline, Layout, layout, layouts, layout_at, lives_at, AreLaid, stored_in, stored, account_in, accounts}
use Rattle.rk_parts.specs.Held.{Held}
use Rattle.rk_parts.specs.Noted.{no_part, part_at}

-- ---- outlines

pub outline_life : (x : Thread) → has_begun (outline x).life ≡ has_begun x.life
outline_life x = by (has_begun x.life) refl where
  by : (b : Bool) → has_begun x.life ≡ b → has_begun (outline x).life ≡ has_begun x.life
  by true e = rw e refl
  by false e = rw e e

pub outline_home : (x : Thread) → (outline x).home ≡ x.home
outline_home x = by (has_begun x.life) refl where
  by : (b : Bool) → has_begun x.life ≡ b → (outline x).home ≡ x.home
  by true e = rw e refl
  by false e = rw e refl

pub outline_dead : (x : Thread) → has_begun x.life ≡ false → outline x ≡ x
outline_dead x e = rw e refl

-- threads that live and have the same home have the same outline
pub outline_same : (x y : Thread) → has_begun x.life ≡ true → has_begun y.life ≡ true → x.home ≡ y.home → outline x ≡ outline y
outline_same x y lx ly home = rw (lx, ly, home) refl

nth-outline : (xs : List Thread) (t : ℕ) → nth no_thread (map outline xs) t ≡ outline (nth no_thread xs t)
nth-outline xs zero = refl
nth-outline xs (suc i) = ⊎_elim (λ h. get_or-map outline xs i no_thread no_thread h) (λ h. rw (get_or_past xs i no_thread h, get_or_past (map outline xs) i no_thread (rw length-map h)) refl) (cases_lt i (length xs))

-- ---- a part and its layout

layout_none : layout no_part ≡ layout_at [] 0
layout_none = refl

pub layout_is : (parts : List ClusterPart) (i : ℕ) → layout_at (layouts parts) i ≡ layout (part_at parts i)
layout_is [] i = refl
layout_is (p ∷ ps) zero = refl
layout_is (p ∷ ps) (suc i) = layout_is ps i

pub lives_is : (parts : List ClusterPart) (i t : ℕ) → lives_at (layout_at (layouts parts) i) t ≡ lives_in (part_at parts i) t
lives_is parts i t =
    ap (λ (p : Layout). lives_at p t) (layout_is parts i)
    ∙ ap (λ (x : Thread). has_begun x.life) (nth-outline (part_at parts i).threads.places t)
    ∙ outline_life (placed_in (part_at parts i) t)

-- What a layout says of the parts that lie so.
pub record Lie (counts : List ℕ) (parts : List ClusterPart) : Type 0 where
  pub apart : (i j : ℕ) → i < length parts → j < length parts → (part_at parts i).lined.number ≡ (part_at parts j).lined.number → i ≡ j
  pub once : (i j t : ℕ) → lives_in (part_at parts i) t ≡ true → lives_in (part_at parts j) t ≡ true → i ≡ j
  pub home : (i t : ℕ) → lives_in (part_at parts i) t ≡ true → (placed_in (part_at parts i) t).home ≡ (part_at parts i).lined.number
  pub known : (i t : ℕ) → lives_in (part_at parts i) t ≡ true → (part_at parts i).lined.number < length counts
  pub blank : (i t : ℕ) → lives_in (part_at parts i) t ≡ false → placed_in (part_at parts i) t ≡ no_thread
  pub size : (i : ℕ) → i < length parts → length (part_at parts i).threads.places ≡ MOST_OBJECTS
  pub count : (i : ℕ) → i < length parts → length (part_at parts i).lined.cpus ≡ get_or counts (part_at parts i).lined.number 0
  pub first : (i : ℕ) → i < length parts → (part_at parts i).lined.number < length counts → (part_at parts i).lined.first ≡ cpus_in (take (part_at parts i).lined.number counts)

length-layouts : (parts : List ClusterPart) → length (layouts parts) ≡ length parts
length-layouts parts = length-map parts layout

number_of : (parts : List ClusterPart) (i : ℕ) → (layout_at (layouts parts) i).number ≡ (part_at parts i).lined.number
number_of parts i = ap (λ (p : Layout). p.number) (layout_is parts i)

pub lie : (counts : List ℕ) (parts : List ClusterPart) → AreLaid counts (layouts parts) → Lie counts parts
lie counts parts laid = record {
  apart = λ i j hi hj e. laid.apart i j (rw length-layouts hi) (rw length-layouts hj) (number_of parts i ∙ e ∙ sym (number_of parts j));
  once = λ i j t a b. laid.once i j t (lives_is parts i t ∙ a) (lives_is parts j t ∙ b);
  home = λ i t h. sym (place_home i t) ∙ laid.home i t (lives_is parts i t ∙ h) ∙ number_of parts i;
  known = λ i t h. rw (number_of parts i) at (laid.known i t (lives_is parts i t ∙ h));
  blank = λ i t h. sym (outline_dead (placed_in (part_at parts i) t) h) ∙ sym (place i t) ∙ laid.blank i t (lives_is parts i t ∙ h);
  size = λ i h. sym (length-map (part_at parts i).threads.places outline) ∙ sym (ap (λ (p : Layout). length p.places) (layout_is parts i)) ∙ laid.size i (rw length-layouts h);
  count = λ i h. sym (ap (λ (p : Layout). p.count) (layout_is parts i)) ∙ laid.count i (rw length-layouts h) ∙ ap (λ n. get_or counts n 0) (number_of parts i);
  first = λ i h k. sym (ap (λ (p : Layout). p.first) (layout_is parts i)) ∙ laid.first i (rw length-layouts h) (rw (number_of parts i) k) ∙ ap (λ n. cpus_in (take n counts)) (number_of parts i);
} where
  place : (i t : ℕ) → nth no_thread (layout_at (layouts parts) i).places t ≡ outline (placed_in (part_at parts i) t)
  place i t = ap (λ (p : Layout). nth no_thread p.places t) (layout_is parts i) ∙ nth-outline (part_at parts i).threads.places t

  place_home : (i t : ℕ) → (nth no_thread (layout_at (layouts parts) i).places t).home ≡ (placed_in (part_at parts i) t).home
  place_home i t = ap (λ (x : Thread). x.home) (place i t) ∙ outline_home (placed_in (part_at parts i) t)

-- and parts of which this holds lie so
pub laid : (counts : List ℕ) (parts : List ClusterPart) → Lie counts parts → AreLaid counts (layouts parts)
laid counts parts is = record {
  apart = λ i j hi hj e. is.apart i j (rw length-layouts at hi) (rw length-layouts at hj) (sym (number_of parts i) ∙ e ∙ number_of parts j);
  once = λ i j t a b. is.once i j t (sym (lives_is parts i t) ∙ a) (sym (lives_is parts j t) ∙ b);
  home = λ i t h. place_home i t ∙ is.home i t (sym (lives_is parts i t) ∙ h) ∙ sym (number_of parts i);
  known = λ i t h. rw (number_of parts i) (is.known i t (sym (lives_is parts i t) ∙ h));
  blank = λ i t h. (let dead = sym (lives_is parts i t) ∙ h in place i t ∙ outline_dead (placed_in (part_at parts i) t) dead ∙ is.blank i t dead);
  size = λ i h. ap (λ (p : Layout). length p.places) (layout_is parts i) ∙ length-map (part_at parts i).threads.places outline ∙ is.size i (rw length-layouts at h);
  count = λ i h. ap (λ (p : Layout). p.count) (layout_is parts i) ∙ is.count i (rw length-layouts at h) ∙ sym (ap (λ n. get_or counts n 0) (number_of parts i));
  first = λ i h k. ap (λ (p : Layout). p.first) (layout_is parts i) ∙ is.first i (rw length-layouts at h) (rw (number_of parts i) at k) ∙ sym (ap (λ n. cpus_in (take n counts)) (number_of parts i));
} where
  place : (i t : ℕ) → nth no_thread (layout_at (layouts parts) i).places t ≡ outline (placed_in (part_at parts i) t)
  place i t = ap (λ (p : Layout). nth no_thread p.places t) (layout_is parts i) ∙ nth-outline (part_at parts i).threads.places t

  place_home : (i t : ℕ) → (nth no_thread (layout_at (layouts parts) i).places t).home ≡ (placed_in (part_at parts i) t).home
  place_home i t = ap (λ (x : Thread). x.home) (place i t) ∙ outline_home (placed_in (part_at parts i) t)

-- ---- changes of a part

-- how the parts lie of which one is another
pub layouts_set : (parts : List ClusterPart) (at : ℕ) (part : ClusterPart) → layouts (set parts at part) ≡ set (layouts parts) at (layout part)
layouts_set [] at part = refl
layouts_set (p ∷ ps) zero part = refl
layouts_set (p ∷ ps) (suc at) part = ap (λ (ls : List Layout). layout p ∷ ls) (layouts_set ps at part)

-- a part that lies, stores or holds as the one before it
pub layouts_same : (parts : List ClusterPart) (at : ℕ) (part : ClusterPart) → layout part ≡ layout (part_at parts at) → layouts (set parts at part) ≡ layouts parts
layouts_same parts at part same = map-set_same layout parts at part no_part same

pub stored_same : (parts : List ClusterPart) (at : ℕ) (part : ClusterPart) → stored_in part ≡ stored_in (part_at parts at) → stored (set parts at part) ≡ stored parts
stored_same parts at part same = map-set_same stored_in parts at part no_part same

pub holdings_same : (parts : List ClusterPart) (at : ℕ) (part : ClusterPart) → part.holdings ≡ (part_at parts at).holdings → holdings (set parts at part) ≡ holdings parts
holdings_same parts at part same = map-set_same (λ (p : ClusterPart). p.holdings.owners) parts at part no_part (ap (λ (h : Held). h.owners) same)

pub accounts_same : (parts : List ClusterPart) (at : ℕ) (part : ClusterPart) → account_in part ≡ account_in (part_at parts at) → accounts (set parts at part) ≡ accounts parts
accounts_same parts at part same = map-set_same account_in parts at part no_part same

outlines_set : (xs : List Thread) (t : ℕ) (x : Thread) → outline x ≡ outline (nth no_thread xs t) → map outline (with_nth xs t x) ≡ map outline xs
outlines_set xs zero x e = refl
outlines_set xs (suc i) x e = by xs i e where
  by : (xs : List Thread) (i : ℕ) → outline x ≡ outline (get_or xs i no_thread) → map outline (set xs i x) ≡ map outline xs
  by [] i e = refl
  by (y ∷ ys) zero e = ap (λ z. z ∷ map outline ys) e
  by (y ∷ ys) (suc i) e = ap (λ (zs : List Thread). outline y ∷ zs) (by ys i e)

-- to put a thread where one with the same outline is changes no layout
pub layout_put : (part : ClusterPart) (t : ℕ) (x : Thread) → outline x ≡ outline (placed_in part t) → layout (record part { threads = record part.threads { places = with_nth part.threads.places t x } }) ≡ layout part
layout_put part t x e = ap (λ (ts : List Thread). (let l : Layout = record { number = part.lined.number; first = part.lined.first; count = length part.lined.cpus; places = ts } in l)) (outlines_set part.threads.places t x e)
