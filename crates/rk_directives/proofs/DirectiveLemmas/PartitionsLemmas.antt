-- The directives of the partition manager: partitions alone change, and names with them.
use Rattle.std.proofs.Common.{◌≡◌, ℕ, List, [], ◌∷◌, Bool, true, false, cond, Option, None, Some, Ok, Err, length, refl, sym, ap, ◌∙◌}
use Rattle.rk_model.specs.declared.entry.Answer.{Answer}
use Rattle.rk_model.specs.declared.entry.Answer.TheVariants as told
use Rattle.rk_model.specs.declared.entry.Reply.{Reply}
use Rattle.rk_model.specs.declared.ids.Class.TheVariants.{Partition}
use Rattle.rk_model.specs.declared.scenario.Scenario.{Scenario}
use Rattle.rk_model.specs.declared.scenario.Target.{Target}
use Rattle.rk_model.specs.declared.status.Status.{Status}
use Rattle.rk_model.specs.declared.status.Status.TheVariants.{Successful, InvalidAddress, ResourceInUse}
use Rattle.rk_model.specs.Ids.{id_of}
use Rattle.rk_model.specs.Lists.{with_nth}
use Rattle.rk_model.specs.Names.{Table, with_names, taken, given_back}
use Rattle.rk_model.specs.State.{Plain, PartitionState, objects_of, no_partition, partition_at, put_partition}
use Rattle.rk_model.specs.Directives.Objects.{bits_of, object_named, put_names, create, without_object}
use Rattle.rk_model.specs.Directives.Outcomes.{Refused, done, answer_of, changed}
use Rattle.rk_model.specs.Directives.Partitions.{is_out, is_in_use, memory_refusal, new_partition, partition_create, partition_ident, taken_first, partition_get, with_free, given_back_to, partition_return, without_partition, removed_at, partition_delete}
use Rattle.rk_model.proofs.IndexLemmas.{length-with_nth}
use Rattle.rk_partition.specs.Partitions.{without_first, all_but_first, reply_to_get, returned, reply_to_return, deleted, reply_to_delete, refused, successful}
use Rattle.rk_parts.specs.declared.parts.ClusterPart.{ClusterPart}
use Rattle.rk_groups.specs.declared.group.GroupPart.{GroupPart}
use Rattle.rk_groups.specs.Groups.{PutsPartition}
use Rattle.rk_groups.specs.GroupObjects.{partition_lent}
use Rattle.rk_parts.specs.Joined.{joined, lent}
use Rattle.rk_parts.specs.NamesAgree.{AreNamed}
use Rattle.rk_groups.proofs.GroupLemmas.{with_nth-still}
use Rattle.rk_parts.proofs.GroupJoinedLemmas.{partition_joined}
use Rattle.rk_directives.specs.Calls.{IsCaller}
use Rattle.rk_directives.specs.Does.{DoesBoth, DoesGroups, Creates, answered, with_table}
use Rattle.rk_directives.specs.Sound.{IsSound, IsGentle}
use Rattle.rk_directives.proofs.KeptHoldingLemmas.{still_held, same_owners}
use Rattle.rk_directives.proofs.GentleChangeLemmas.{Stays, gentle_same}
use Rattle.rk_directives.proofs.NamesAgreeLemmas.{named_stored, named_divided, named_emptied}
use Rattle.rk_directives.proofs.OutcomeLemmas.{IsFair, stays_as, fair_refused, fair_done, fair_found, fair_if, fair_create, fair_ident}
use Rattle.rk_directives.proofs.DirectiveLemmas.ObjectsLemmas.{named_lives}

-- ---- why they keep what must hold

-- a state with other partitions, and names that agree with them
pooled : (k : Plain) (partitions : List PartitionState) (table : Table) → IsSound k → length partitions ≡ length k.partitions → AreNamed table (record (objects_of k) { partitions = partitions }) → IsGentle k (record k { partitions = partitions; table = table })
pooled k partitions table sound size named =
    let same = gentle_same k sound in
    record {
      scenario = refl;
      present = refl;
      places = refl;
      locks = refl;
      halls = refl;
      pools = size;
      threads = same.threads;
      lines = same.lines;
      timers = same.timers;
      named = named;
      tied = sound.tied;
      chained = sound.chained;
    }

-- a partition that a caller asks for lives
partition_lives : (k : Plain) (t : ℕ) (id : Target) (i : ℕ) → object_named k t Partition id ≡ Some i → (partition_at k i).live ≡ true
partition_lives k t id i is = named_lives k t Partition id i is

-- one that lives is put back
stored_stays : (k : Plain) (t i : ℕ) (partition : PartitionState) → IsCaller k t → (partition_at k i).live ≡ true → partition.live ≡ true → Stays k (put_partition k i partition) t
stored_stays k t i partition caller was lives =
    stays_as k (put_partition k i partition) t caller (pooled k (with_nth k.partitions i partition) k.table caller.acts.sound (length-with_nth partition k.partitions i) (named_stored k.table (objects_of k) i partition was lives caller.acts.sound.named)) refl

pub partition_create_fair : (k : Plain) (t name start length size : ℕ) → IsCaller k t → IsFair k t (partition_create k name start length size)
partition_create_fair k t name start length size caller = fair_create k t Partition name (memory_refusal start length size) _ (λ index free is.
    let partition = new_partition start length size in
    stays_as k (put_partition (put_names k Partition (taken k.table.partitions index free name)) index partition) t caller
    (pooled k (with_nth k.partitions index partition) (with_names Partition (taken k.table.partitions index free name) k.table) caller.acts.sound (length-with_nth partition k.partitions index) (named_divided k.table (objects_of k) index free name partition caller.acts.sound.named caller.acts.sound.pools is refl))
    refl)

pub partition_ident_fair : (k : Plain) (t name : ℕ) → IsCaller k t → IsFair k t (partition_ident k name)
partition_ident_fair k t name caller = fair_ident k t Partition name caller

taken_fair : (k : Plain) (t i : ℕ) (free : List ℕ) → IsCaller k t → (partition_at k i).live ≡ true → IsFair k t (taken_first k i free)
taken_fair k t i [] caller lives = fair_refused k t _
taken_fair k t i (address ∷ free) caller lives = fair_done k t _ _ _ _ refl (stored_stays k t i (record (partition_at k i) { free = free }) caller lives lives)

pub partition_get_fair : (k : Plain) (t : ℕ) (id : Target) → IsCaller k t → IsFair k t (partition_get k t id)
partition_get_fair k t id caller = fair_found k t (object_named k t Partition id) _ (λ i is. taken_fair k t i (partition_at k i).free caller (partition_lives k t id i is))

pub partition_return_fair : (k : Plain) (t : ℕ) (id address : Target) → IsCaller k t → IsFair k t (partition_return k t id address)
partition_return_fair k t id address caller = fair_found k t (object_named k t Partition id) _ (λ i is. fair_if k t (is_out (partition_at k i) (bits_of k t address)) _ _
    (λ _. fair_done k t _ _ _ _ refl (stored_stays k t i (with_free (partition_at k i) (bits_of k t address)) caller (partition_lives k t id i is) (partition_lives k t id i is)))
    (λ _. fair_refused k t _))

pub partition_delete_fair : (k : Plain) (t : ℕ) (id : Target) → IsCaller k t → IsFair k t (partition_delete k t id)
partition_delete_fair k t id caller = fair_found k t (object_named k t Partition id) _ (λ i is. fair_if k t (is_in_use (partition_at k i)) _ _
    (λ _. fair_refused k t _)
    (λ _. fair_done k t _ _ _ _ refl (stays_as k (without_partition k i) t caller
    (pooled k (with_nth k.partitions i no_partition) (with_names Partition (given_back k.table.partitions i) k.table) caller.acts.sound (length-with_nth no_partition k.partitions i) (named_emptied k.table (objects_of k) i caller.acts.sound.named caller.acts.sound.pools (partition_lives k t id i is)))
    refl)))

-- ---- on lent parts

-- a partition that stays as it is changes nothing
still : (k : Plain) (i : ℕ) → put_partition k i (partition_at k i) ≡ k
still k i = ap (λ (ps : List PartitionState). record k { partitions = ps }) (with_nth-still no_partition k.partitions i)

get_answer : (k : Plain) (i : ℕ) (free : List ℕ) → answered (reply_to_get free) ≡ answer_of (taken_first k i free)
get_answer k i [] = refl
get_answer k i (address ∷ free) = refl

get_state : (k : Plain) (i : ℕ) (free : List ℕ) → (partition_at k i).free ≡ free → put_partition k i (record (partition_at k i) { free = all_but_first free }) ≡ changed k (taken_first k i free)
get_state k i [] e = ap (λ ts. put_partition k i (record (partition_at k i) { free = ts })) (sym e) ∙ still k i
get_state k i (address ∷ free) e = refl

-- the first free buffer was taken, if there was one
pub takes : (s : Scenario) (clusters : List ClusterPart) (groups groups' : List GroupPart) (i : ℕ) (reply : Reply) (answer : Answer) → PutsPartition groups i (without_first (partition_lent groups i)) groups' → reply ≡ reply_to_get (partition_lent groups i).free → answer ≡ answered reply → DoesBoth s (λ k. taken_first k i (partition_at k i).free) answer clusters groups clusters groups'
takes s clusters groups groups' i reply answer puts is told = record {
  told = λ table. (let k = joined s table clusters groups in told ∙ ap answered is ∙ get_answer k i (partition_at k i).free);
  state = λ table laid. (let k = joined s table clusters groups in partition_joined s table clusters groups groups' i (without_first (partition_lent groups i)) puts ∙ get_state k i (partition_at k i).free refl);
  kept = refl;
  framed = puts.kept;
  held = still_held clusters clusters groups groups' refl (same_owners groups groups' puts.semaphores);
}

return_answer : (k : Plain) (i address : ℕ) (out : Bool) → answered (cond out (successful 0) (refused InvalidAddress)) ≡ answer_of (cond out (done 0 (put_partition k i (with_free (partition_at k i) address))) (Refused InvalidAddress))
return_answer k i address true = refl
return_answer k i address false = refl

return_state : (k : Plain) (i address : ℕ) (out : Bool) → put_partition k i (cond out (with_free (partition_at k i) address) (partition_at k i)) ≡ changed k (cond out (done 0 (put_partition k i (with_free (partition_at k i) address))) (Refused InvalidAddress))
return_state k i address true = refl
return_state k i address false = still k i

-- an address was given back, if it is that of a buffer that was out
pub gives_back : (s : Scenario) (clusters : List ClusterPart) (groups groups' : List GroupPart) (i address : ℕ) (reply : Reply) (answer : Answer) → PutsPartition groups i (returned address (partition_lent groups i)) groups' → reply ≡ reply_to_return address (partition_lent groups i) → answer ≡ answered reply → DoesBoth s (λ k. given_back_to k i address) answer clusters groups clusters groups'
gives_back s clusters groups groups' i address reply answer puts is told = record {
  told = λ table. (let k = joined s table clusters groups in told ∙ ap answered is ∙ return_answer k i address (is_out (partition_at k i) address));
  state = λ table laid. (let k = joined s table clusters groups in partition_joined s table clusters groups groups' i (returned address (partition_lent groups i)) puts ∙ return_state k i address (is_out (partition_at k i) address));
  kept = refl;
  framed = puts.kept;
  held = still_held clusters clusters groups groups' refl (same_owners groups groups' puts.semaphores);
}

-- the address that a caller gives
pub gives_back_named : (s : Scenario) (clusters : List ClusterPart) (groups groups' : List GroupPart) (t i bits : ℕ) (address : Target) (answer : Answer) → bits ≡ bits_of (lent clusters) t address → DoesBoth s (λ k. given_back_to k i bits) answer clusters groups clusters groups' → DoesBoth s (λ k. given_back_to k i (bits_of k t address)) answer clusters groups clusters groups'
gives_back_named s clusters groups groups' t i bits address answer is does = record {
  told = λ table. (let k = joined s table clusters groups in does.told table ∙ ap (λ b. answer_of (given_back_to k i b)) is);
  state = λ table laid. (let k = joined s table clusters groups in does.state table laid ∙ ap (λ b. changed k (given_back_to k i b)) is);
  kept = does.kept;
  framed = does.framed;
  held = does.held;
}

-- what the reply to a delete says of the partition
pub was_unused : (used : Bool) → (let reply : Reply = cond used (refused ResourceInUse) (successful 0) in reply).status ≡ Successful → used ≡ false
was_unused true e = let no : ⊥ = cc in absurd no
was_unused false e = refl

pub was_used : (used : Bool) → ((let reply : Reply = cond used (refused ResourceInUse) (successful 0) in reply).status ≡ Successful → ⊥) → used ≡ true
was_used true other = refl
was_used false other = absurd (other refl)

-- a partition of which no buffer is out was removed, and its name was taken away
pub removes : (s : Scenario) (groups groups' : List GroupPart) (table table' : Table) (i : ℕ) (answer : Answer) → is_in_use (partition_lent groups i) ≡ false → PutsPartition groups i (deleted (partition_lent groups i)) groups' → answer ≡ told.Done Successful 0 None → ((k : Plain) → with_table k table' ≡ without_object (with_table k table) Partition i) → DoesGroups s (λ k. removed_at k i) answer groups table groups' table'
removes s groups groups' table table' i answer unused puts is removed = record {
  told = λ parts. (let k = joined s table parts groups in is ∙ ap (λ b. answer_of (cond b (Refused ResourceInUse) (done 0 (without_partition k i)))) (sym unused));
  state = λ parts. (let k = joined s table parts groups in
      partition_joined s table' parts groups groups' i (deleted (partition_lent groups i)) puts
      ∙ ap (λ b. put_partition (with_table k table') i (cond b (partition_lent groups i) no_partition)) unused
      ∙ removed (put_partition k i no_partition)
      ∙ ap (λ b. changed k (cond b (Refused ResourceInUse) (done 0 (without_partition k i)))) (sym unused));
  framed = puts.kept;
  owners = same_owners groups groups' puts.semaphores;
}

-- one of which a buffer is out stays
pub keeps : (s : Scenario) (groups groups' : List GroupPart) (table : Table) (i : ℕ) (status : Status) → is_in_use (partition_lent groups i) ≡ true → PutsPartition groups i (deleted (partition_lent groups i)) groups' → status ≡ (reply_to_delete (partition_lent groups i)).status → DoesGroups s (λ k. removed_at k i) (told.Refused status) groups table groups' table
keeps s groups groups' table i status used puts is = record {
  told = λ parts. (let k = joined s table parts groups in
      ap (λ st. told.Refused st) (is ∙ ap (λ b. (let reply : Reply = cond b (refused ResourceInUse) (successful 0) in reply).status) used)
      ∙ ap (λ b. answer_of (cond b (Refused ResourceInUse) (done 0 (without_partition k i)))) (sym used));
  state = λ parts. (let k = joined s table parts groups in
      partition_joined s table parts groups groups' i (deleted (partition_lent groups i)) puts
      ∙ ap (λ b. put_partition k i (cond b (partition_lent groups i) no_partition)) used
      ∙ still k i
      ∙ ap (λ b. changed k (cond b (Refused ResourceInUse) (done 0 (without_partition k i)))) (sym used));
  framed = puts.kept;
  owners = same_owners groups groups' puts.semaphores;
}

-- ---- part.create

pub creates : (s : Scenario) (groups groups' : List GroupPart) (table table' : Table) (name index start length size : ℕ) (refusal : Option Status) (answer : Answer) → refusal ≡ memory_refusal start length size → ((k : Plain) → Creates (with_table k table) Partition name refusal (Ok index) (with_table k table')) → answer ≡ told.Done Successful (id_of Partition index) None → PutsPartition groups index (new_partition start length size) groups' → DoesGroups s (λ k. partition_create k name start length size) answer groups table groups' table'
creates s groups groups' table table' name index start length size refusal answer refused made is puts = record {
  told = λ parts. (let k = joined s table parts groups in is ∙ ap answer_of (sym (row k)));
  state = λ parts. (let k = joined s table parts groups in partition_joined s table' parts groups groups' index (new_partition start length size) puts ∙ ap (changed k) (sym (row k)));
  framed = puts.kept;
  owners = same_owners groups groups' puts.semaphores;
} where
  place : ℕ → Plain → Plain
  place index next = put_partition next index (new_partition start length size)

  row : (k : Plain) → partition_create (with_table k table) name start length size ≡ done (id_of Partition index) (place index (with_table k table'))
  row k = ap (λ r. create (with_table k table) Partition name r place) (sym refused) ∙ made k place

pub creates_none : (s : Scenario) (groups : List GroupPart) (table table' : Table) (name start length size : ℕ) (refusal : Option Status) (status : Status) → refusal ≡ memory_refusal start length size → ((k : Plain) → Creates (with_table k table) Partition name refusal (Err status) (with_table k table')) → DoesGroups s (λ k. partition_create k name start length size) (told.Refused status) groups table groups table'
creates_none s groups table table' name start length size refusal status refused made = record {
  told = λ parts. (let k = joined s table parts groups in ap answer_of (sym (row k)));
  state = λ parts. (let k = joined s table parts groups in (made k).1 ∙ ap (changed k) (sym (row k)));
  framed = refl;
  owners = λ i. refl;
} where
  place : ℕ → Plain → Plain
  place index next = put_partition next index (new_partition start length size)

  row : (k : Plain) → partition_create (with_table k table) name start length size ≡ Refused status
  row k = ap (λ r. create (with_table k table) Partition name r place) (sym refused) ∙ (made k).0 place
