-- A chain is counted node by node.
use Rattle.std.proofs.Common.{◌≡◌, ℕ, ◌+◌, ◌*◌, ◌^◌, ◌<◌, ◌≤◌, List, [], ◌∷◌, length, Option, Some, None, refl, sym, ap, subst, ◌∙◌, arith}
use Rattle.std.specs.List.{All}
use Rattle.std.proofs.lemmas.List.Elements.{All-head, All-tail}
use Rattle.std.proofs.lemmas.List.Sums.{sum_by-cons}
use Rattle.chain_core.specs.Path.{IsPath}
use Rattle.marked_word.specs.Head.{first_of}
use Rattle.table_shape.specs.declared.place.Place.TheVariants as place
use Rattle.intern_log.specs.Now.{Now}
use Rattle.atomic_step.specs.Count.{holds_of}
use Rattle.cht_core.specs.Memory.{Memory, links, memory_of}
use Rattle.cht_core.proofs.Walks.{none_ahead, first_ahead}
use Rattle.cht_run.specs.declared.seat.Seat.{Seat}
use Rattle.cht_run.specs.declared.sight.Entry.{Entry}
use Rattle.cht_run.specs.declared.statistics.Statistics.{Statistics}
use Rattle.cht_run.specs.declared.table.Cht.{Cht}
use Rattle.cht_run.specs.declared.tally.Tally.{Tally}
use Rattle.cht_run.specs.History.{log_of}
use Rattle.cht_run.specs.Seats.{history, seen}
use Rattle.cht_run.specs.Statistics.{IsStatistics}
use Rattle.cht_run.specs.Tallies.{memory_in, now_for, Reads, ReadsOn, live_in, permanent_in, references_in, IsTally, sum_at, sum_in, sum_below, HasChain, IsTallyOfChain, IsLongestBelow}
use Rattle.cht_run.proofs.Tallies.{has_chain, bucket_tally}
use Rattle.cht_run.proofs.Totals.{live_small, permanent_small, references_small, numbers_are}

-- who has read on has the words and the log that it had
pub same_memory : (cht : Cht) (old new : Seat) → ReadsOn cht old new → memory_in cht new ≡ memory_in cht old
same_memory cht old new on = ap (memory_of cht.origin.table.shape) on.snapshot

pub same_now : (cht : Cht) (old new : Seat) → ReadsOn cht old new → now_for cht new ≡ now_for cht old
same_now cht old new on = ap (λ (h : List Entry). Rattle.cht_core.specs.Causes.now_in cht.origin.table (log_of h)) on.history

-- so many slots of a chain were counted, and the others are ahead
pub record CountsOn (m : Memory) (slots : ℕ) (first next : Option ℕ) (done : ℕ) (tally : Tally) : Type 0 where
  pub nodes : List ℕ
  pub path : IsPath (links m) first nodes
  pub ahead : List ℕ
  pub leads : IsPath (links m) next ahead
  pub inside : All (λ s. s < slots) ahead
  pub few : length ahead + done ≤ slots
  pub live : sum_at m nodes live_in ≡ tally.live + sum_at m ahead live_in
  pub permanent : sum_at m nodes permanent_in ≡ tally.permanent + sum_at m ahead permanent_in
  pub references : sum_at m nodes references_in ≡ tally.references + sum_at m ahead references_in
  pub small : (tally.live ≤ done) × (tally.permanent ≤ done) × (tally.references ≤ 65535 * done)

module _ (m : Memory) (slots : ℕ) (first : Option ℕ) where
  -- none was counted
  pub counts_none : (tally : Tally) → HasChain m slots first → tally.live ≡ 0 → tally.permanent ≡ 0 → tally.references ≡ 0 → CountsOn m slots first first 0 tally
  counts_none tally chain live permanent references = record {
    nodes = chain.0;
    path = chain.1.path;
    ahead = chain.0;
    leads = chain.1.path;
    inside = chain.1.inside;
    few = let few = chain.1.few in omega (arith, few);
    live = omega (arith, live);
    permanent = omega (arith, permanent);
    references = omega (arith, references);
    small = (omega (arith, live), omega (arith, permanent), omega (arith, references));
  }

  -- all were
  ended : (next : Option ℕ) (done : ℕ) (tally : Tally) (c : CountsOn m slots first next done tally) → c.ahead ≡ [] → IsTallyOfChain m first tally
  ended next done tally c none =
      let live = c.live in
      let permanent = c.permanent in
      let references = c.references in
      let no_live : sum_at m c.ahead live_in ≡ 0 = ap (λ l. sum_at m l live_in) none in
      let no_permanent : sum_at m c.ahead permanent_in ≡ 0 = ap (λ l. sum_at m l permanent_in) none in
      let no_references : sum_at m c.ahead references_in ≡ 0 = ap (λ l. sum_at m l references_in) none in
      (c.nodes, c.path, record { live = omega (arith, live, no_live); permanent = omega (arith, permanent, no_permanent); references = omega (arith, references, no_references) })

  pub counts_end : (next : Option ℕ) (done : ℕ) (tally : Tally) → CountsOn m slots first next done tally → next ≡ None → IsTallyOfChain m first tally
  counts_end next done tally c is = ended next done tally c (none_ahead (links m) c.ahead (subst (λ o. IsPath (links m) o c.ahead) is c.leads))

  no_length : (xs : List ℕ) → length xs ≤ 0 → xs ≡ []
  no_length [] few = refl
  no_length (x ∷ xs) few = absurd (omega (arith, few))

  pub counts_all : (next : Option ℕ) (tally : Tally) → CountsOn m slots first next slots tally → IsTallyOfChain m first tally
  counts_all next tally c = ended next slots tally c (no_length c.ahead (let few = c.few in omega (arith, few)))

  -- the next slot is one of the table
  pub next_inside : (next : Option ℕ) (done slot : ℕ) (tally : Tally) → CountsOn m slots first next done tally → next ≡ Some slot → slot < slots
  next_inside next done slot tally c is =
      let at = first_ahead (links m) slot c.ahead (subst (λ o. IsPath (links m) o c.ahead) is c.leads) in
      All-head (λ s. s < slots) slot at.0 (subst (All (λ s. s < slots)) at.1 c.inside)

  -- one more was counted
  pub counts_one_more : (next : Option ℕ) (done slot count : ℕ) (tally here new : Tally) (c : CountsOn m slots first next done tally) → next ≡ Some slot → count ≡ holds_of (m (place.Count slot)) →
      IsTally (λ f. f count) here → new.live ≡ tally.live + here.live → new.permanent ≡ tally.permanent + here.permanent → new.references ≡ tally.references + here.references →
      CountsOn m slots first (links m slot) (done + 1) new
  counts_one_more next done slot count tally here new c is at own live permanent references =
      let split = first_ahead (links m) slot c.ahead (subst (λ o. IsPath (links m) o c.ahead) is c.leads) in
      let long : length c.ahead ≡ length (slot ∷ split.0) = ap length split.1 in
      let few = c.few in
      let small = c.small in
      let live_here = live_small count in
      let permanent_here = permanent_small count in
      let references_here = references_small count in
      let own_live = own.live in
      let own_permanent = own.permanent in
      let own_references = own.references in
      record {
        nodes = c.nodes;
        path = c.path;
        ahead = split.0;
        leads = split.2;
        inside = All-tail (λ s. s < slots) slot split.0 (subst (All (λ s. s < slots)) split.1 c.inside);
        few = omega (arith, few, long);
        live = parted live_in split tally.live here.live new.live c.live own_live live;
        permanent = parted permanent_in split tally.permanent here.permanent new.permanent c.permanent own_permanent permanent;
        references = parted references_in split tally.references here.references new.references c.references own_references references;
        small = (omega (arith, small.0, live, own_live, live_here), omega (arith, small.1, permanent, own_permanent, permanent_here), omega (arith, small.2, references, own_references, references_here));
      }
    where
      parted : (f : ℕ → ℕ) (split : (rest : List ℕ) × (c.ahead ≡ slot ∷ rest) × IsPath (links m) (links m slot) rest) (before one after : ℕ) → sum_at m c.nodes f ≡ before + sum_at m c.ahead f → one ≡ f count →
          after ≡ before + one → sum_at m c.nodes f ≡ after + sum_at m split.0 f
      parted f split before one after was is_one is_after =
          let whole : sum_at m c.ahead f ≡ sum_at m (slot ∷ split.0) f = ap (λ l. sum_at m l f) split.1 in
          let parts = sum_by-cons (λ s. f (holds_of (m (place.Count s)))) slot split.0 in
          let same : f count ≡ f (holds_of (m (place.Count slot))) = ap f at in
          omega (arith, was, whole, parts, same, is_one, is_after)

-- A BUCKET

module _ (cht : Cht) (old new : Seat) (reads : Reads cht old) (on : ReadsOn cht old new) (level bucket : ℕ) (at : level ≡ (now_for cht old).level) (below : bucket < 2 ^ level) (first : Option ℕ)
    (is : first ≡ first_of (memory_in cht old (place.Head level bucket))) where
  inside_row : bucket < 2 ^ (now_for cht old).level
  inside_row = subst (λ l. bucket < 2 ^ l) at below

  first_is : first ≡ first_of (memory_in cht old (place.Head (now_for cht old).level bucket))
  first_is = is ∙ ap (λ l. first_of (memory_in cht old (place.Head l bucket))) at

  pub bucket_chain : HasChain (memory_in cht new) cht.origin.table.shape.slots first
  bucket_chain = subst (λ (m : Memory). HasChain m cht.origin.table.shape.slots first) (sym (same_memory cht old new on))
      (subst (HasChain (memory_in cht old) cht.origin.table.shape.slots) (sym first_is) (has_chain cht.origin.table (memory_in cht old) (seen old) reads.shown bucket inside_row))

  pub bucket_counted : (tally : Tally) → IsTallyOfChain (memory_in cht new) first tally → IsTally (sum_in (now_for cht old) bucket) tally
  bucket_counted tally of = bucket_tally cht.origin.table (memory_in cht old) (seen old) reads.shown bucket tally inside_row
      (subst (λ (o : Option ℕ). IsTallyOfChain (memory_in cht old) o tally) first_is (subst (λ (m : Memory). IsTallyOfChain m first tally) (same_memory cht old new on) of))

-- the buckets of who has read on are those that it had
pub bucket_before : (cht : Cht) (old new : Seat) (bucket : ℕ) (tally : Tally) → ReadsOn cht old new → IsTally (sum_in (now_for cht new) bucket) tally → IsTally (sum_in (now_for cht old) bucket) tally
bucket_before cht old new bucket tally on is = subst (λ (n : Now). IsTally (sum_in n bucket) tally) (same_now cht old new on) is

-- and the numbers that it comes to are those of the log
pub numbers_read : (cht : Cht) (old first last : Seat) → history first ≡ history old → Reads cht first → ReadsOn cht first last → (s : Statistics) (tally : Tally) → s.level ≡ (now_for cht first).level → s.buckets ≡ 2 ^ s.level →
    IsTally (sum_below (now_for cht last) (2 ^ s.level)) tally → s.live ≡ tally.live → s.permanent ≡ tally.permanent → s.references ≡ tally.references → IsLongestBelow (now_for cht last) (2 ^ s.level) s.longest →
    IsStatistics cht.origin.table (seen old) s
numbers_read cht old first last same reads on s tally level buckets is live permanent references longest =
    let now : now_for cht last ≡ now_for cht first = same_now cht first last on in
    subst (λ (h : List Entry). IsStatistics cht.origin.table (log_of h) s) same
    (numbers_are cht.origin.table (memory_in cht first) (seen first) reads.shown s tally level (buckets ∙ ap (λ l. 2 ^ l) level)
    (subst (λ l. IsTally (sum_below (now_for cht first) (2 ^ l)) tally) level (subst (λ (n : Now). IsTally (sum_below n (2 ^ s.level)) tally) now is)) live permanent references
    (subst (λ l. IsLongestBelow (now_for cht first) (2 ^ l) s.longest) level (subst (λ (n : Now). IsLongestBelow n (2 ^ s.level) s.longest) now longest)))
