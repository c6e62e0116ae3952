-- The threads that lent parts hold, and the parts in which they are found.
use Rattle.std.proofs.Common.{◌≡◌, ℕ, zero, suc, ◌<◌, List, [], ◌∷◌, true, false, Option, Some, None, length, arith, refl, sym, ap, ◌∙◌, set}
use Rattle.std.specs.Bool.{if◌then◌else◌}
use Rattle.std.proofs.lemmas.Bool.{false≢true}
use Rattle.rk_model.specs.declared.state.Thread.{Thread}
use Rattle.rk_model.specs.Lists.{nth}
use Rattle.rk_model.specs.State.{no_thread}
use Rattle.rk_model.specs.Directives.Objects.{has_begun}
use Rattle.rk_parts.specs.declared.parts.ClusterPart.{ClusterPart}
use Rattle.rk_groups.proofs.FoundLemmas.{found_here, found_later, found_nowhere}
use Rattle.rk_parts.specs.Joined.{placed_in, lives_in, held}
use Rattle.rk_parts.specs.Lent.{found_in}
use Rattle.rk_parts.specs.Noted.{part_at}

-- the thread that is held is that of the part in which it is found
pub held_found : (parts : List ClusterPart) (at t : ℕ) → found_in parts t ≡ Some at → held parts t ≡ placed_in (part_at parts at) t
held_found [] at t found = absurd (cc)
held_found (p ∷ ps) zero t found = let e = found_here (lives_in p t) (found_in ps t) found in rw e refl
held_found (p ∷ ps) (suc at) t found =
    let later = found_later (lives_in p t) (found_in ps t) at found in
    rw later.here_not (held_found ps at t later.there)

-- and lives there
pub found_lives : (parts : List ClusterPart) (at t : ℕ) → found_in parts t ≡ Some at → lives_in (part_at parts at) t ≡ true
found_lives [] at t found = absurd (cc)
found_lives (p ∷ ps) zero t found = found_here (lives_in p t) (found_in ps t) found
found_lives (p ∷ ps) (suc at) t found = found_lives ps at t (found_later (lives_in p t) (found_in ps t) at found).there

pub found_within : (parts : List ClusterPart) (at t : ℕ) → found_in parts t ≡ Some at → at < length parts
found_within [] at t found = absurd (cc)
found_within (p ∷ ps) zero t found = omega arith
found_within (p ∷ ps) (suc at) t found = omega (arith, found_within ps at t (found_later (lives_in p t) (found_in ps t) at found).there)

-- where it is found in no part none is held
pub held_nowhere : (parts : List ClusterPart) (t : ℕ) → found_in parts t ≡ None → held parts t ≡ no_thread
held_nowhere [] t found = refl
held_nowhere (p ∷ ps) t found =
    let e = found_nowhere (lives_in p t) (found_in ps t) found in
    rw e.here_not (held_nowhere ps t e.there_not)

-- in a part that there isn't none lives
pub no_part_lives : (t : ℕ) → nth no_thread [] t ≡ no_thread
no_part_lives zero = refl
no_part_lives (suc i) = refl

-- and lives in none
pub nowhere_lives : (parts : List ClusterPart) (at t : ℕ) → found_in parts t ≡ None → lives_in (part_at parts at) t ≡ false
nowhere_lives [] at t found = rw (no_part_lives t) refl
nowhere_lives (p ∷ ps) zero t found = (found_nowhere (lives_in p t) (found_in ps t) found).here_not
nowhere_lives (p ∷ ps) (suc at) t found = nowhere_lives ps at t (found_nowhere (lives_in p t) (found_in ps t) found).there_not

-- where it lives in none it is found in none
pub lives_nowhere : (parts : List ClusterPart) (t : ℕ) → ((at : ℕ) → lives_in (part_at parts at) t ≡ false) → found_in parts t ≡ None
lives_nowhere [] t none = refl
lives_nowhere (p ∷ ps) t none =
    let here = none 0 in
    let there = lives_nowhere ps t (λ at. none (suc at)) in
    rw (here, there) refl

-- where one is held that lives it is found
pub record IsFound (parts : List ClusterPart) (t : ℕ) : Type 0 where
  pub at : ℕ
  pub found : found_in parts t ≡ Some at

pub lives_found : (parts : List ClusterPart) (t : ℕ) → has_begun (held parts t).life ≡ true → IsFound parts t
lives_found parts t lives = by (found_in parts t) refl where
  by : (o : Option ℕ) → found_in parts t ≡ o → IsFound parts t
  by None e = absurd (false≢true (sym (ap (λ (x : Thread). has_begun x.life) (held_nowhere parts t e)) ∙ lives))
  by (Some at) e = record { at = at; found = e }

-- where none is held none lives in a part
pub dead_nowhere : (parts : List ClusterPart) (t : ℕ) → has_begun (held parts t).life ≡ false → found_in parts t ≡ None
dead_nowhere parts t dead = by (found_in parts t) refl where
  by : (o : Option ℕ) → found_in parts t ≡ o → found_in parts t ≡ None
  by None e = e
  by (Some at) e = absurd (false≢true (sym dead ∙ ap (λ (x : Thread). has_begun x.life) (held_found parts at t e) ∙ found_lives parts at t e))

-- where a part is changed at no place of a thread, that thread is held as before
pub held_else : (parts : List ClusterPart) (at u : ℕ) (part : ClusterPart) → placed_in part u ≡ placed_in (part_at parts at) u → held (set parts at part) u ≡ held parts u
held_else [] at u part same = refl
held_else (p ∷ ps) zero u part same = rw same refl
held_else (p ∷ ps) (suc at) u part same = ap (λ x. if lives_in p u then placed_in p u else x) (held_else ps at u part same)

-- where it was found, it is held after it was put there
pub held_put : (parts : List ClusterPart) (at t : ℕ) (part : ClusterPart) → found_in parts t ≡ Some at → lives_in part t ≡ true → held (set parts at part) t ≡ placed_in part t
held_put [] at t part found lives = absurd (cc)
held_put (p ∷ ps) zero t part found lives = rw lives refl
held_put (p ∷ ps) (suc at) t part found lives =
    let later = found_later (lives_in p t) (found_in ps t) at found in
    rw later.here_not (held_put ps at t part later.there lives)

-- where it was found nowhere, it is held after it was put somewhere
pub held_made : (parts : List ClusterPart) (at t : ℕ) (part : ClusterPart) → found_in parts t ≡ None → at < length parts → lives_in part t ≡ true → held (set parts at part) t ≡ placed_in part t
held_made [] at t part found within lives = absurd (never at within) where
  never : (at : ℕ) → at < 0 → ⊥
  never at h = omega (arith, h)
held_made (p ∷ ps) zero t part found within lives = rw lives refl
held_made (p ∷ ps) (suc at) t part found within lives =
    let e = found_nowhere (lives_in p t) (found_in ps t) found in
    rw e.here_not (held_made ps at t part e.there_not (omega (arith, within)) lives)
