-- What a resize knows after it makes a new head.
use Rattle.std.proofs.Common.{◌≡◌, ◌≢◌, ℕ, ◌+◌, ◌^◌, ◌<◌, List, [], ◌∷◌, Option, Some, None, refl, sym, ap, subst, ◌∙◌, inl, inr, arith}
use Rattle.chain_core.specs.Nodes.{On}
use Rattle.chain_core.specs.Path.{IsPath}
use Rattle.chain_core.proofs.Ways.{path_once}
use Rattle.marked_word.specs.Link.{node_of}
use Rattle.table_shape.specs.declared.place.Place.TheVariants as place
use Rattle.intern_log.specs.declared.event.What.TheVariants as what
use Rattle.atomic_step.specs.declared.step.Step.TheVariants as step
use Rattle.call_machine.specs.declared.resize.ResizeAlong.{ResizeAlong}
use Rattle.call_machine.specs.declared.resize.ResizeStage.TheVariants as stage
use Rattle.call_machine.specs.declared.resize.Side.TheVariants.{Even, Odd}
use Rattle.call_machine.specs.Resize.{joined_first, joins_from}
use Rattle.cht_core.specs.declared.table.Table.{Table}
use Rattle.cht_core.specs.Flow.{Flow, stage_put}
use Rattle.cht_core.specs.KnowsResize.{NoHead, OneHead, TwoHeads, Resizing, HasLocked, Joint, Pair, HasPair, KnowsGrow, KnowsShrink, evens, odds}
use Rattle.cht_core.specs.Memory.{Memory, IsMade, links}
use Rattle.cht_core.specs.Past.{Past, told}
use Rattle.cht_core.specs.Stage.{Stage, Growing, Shrinking, Joining}
use Rattle.cht_core.specs.TableState.{IsTable}
use Rattle.cht_core.proofs.Buckets.{lock_here, lock_elsewhere}
use Rattle.cht_core.proofs.ResizeParts.{IsUsedAt, free_at, resizing_at, lock_owner, free_after_lock, locked_apart, other_rows, other_buckets, locked_chain}
use Rattle.cht_core.proofs.ResizeUsed.{path_kept, left_used, even_used, pair_below}
use Rattle.cht_core.proofs.Turns.{flow_of}

module _ (m m' : Memory) (p : Past) (f : Flow) (i : ℕ) (text : List ℕ) (row bucket : ℕ) (first : Option ℕ) (made : IsMade (step.PutHead row bucket first) m m') where
  abbrev pub put_past : Past
  put_past = told p i (Some (what.Lock row bucket))

  abbrev pub put_flow : Flow
  put_flow = flow_of p f i text (step.PutHead row bucket first) m

  -- it is locked by the seat, as it was made
  pub put_locked : HasLocked m' put_past.now i row bucket first
  put_locked = (lock_here p.now.lock row bucket (Some i) row bucket refl refl, made.here)

  -- the heads of other places stay locked
  pub put_apart : (r b : ℕ) (other : Option ℕ) → (r ≡ row → b ≡ bucket → ⊥) → place.Head r b ≢ place.Head row bucket → HasLocked m p.now i r b other → HasLocked m' put_past.now i r b other
  put_apart r b other differ places h = locked_apart m m' p.now put_past.now i r b other (step.PutHead row bucket first) made places (lock_elsewhere p.now.lock row bucket (Some i) r b differ) h

  pub put_apart_row : (r b : ℕ) (other : Option ℕ) → r ≢ row → HasLocked m p.now i r b other → HasLocked m' put_past.now i r b other
  put_apart_row r b other differ h = put_apart r b other (λ rows buckets. differ rows) (other_rows row bucket r b differ) h

  -- the resize goes on with one more head, at a stage with the same open heads
  pub resizing_puts : (level : ℕ) (st st' : Stage) (except except' : ℕ → ℕ → Type 0) → Resizing p.now f i level st except → stage_put f.chain st ≡ st'
      → ((r b : ℕ) → IsUsedAt level st r b → IsUsedAt level st' r b) → ((r b : ℕ) → except r b → except' r b) → except' row bucket
      → Resizing put_past.now put_flow i level st' except'
  resizing_puts level st st' except except' h to same more mine =
      resizing_at put_past.now put_flow i level st' except' (lock_owner i row p.now.resizing ∙ h.owner) h.at_level (ap (stage_put f.chain) h.at_stage ∙ to)
      (λ r b unused out up. free_after_lock p.now.lock row bucket r b (Some i)
      (λ rows buckets. out (subst (λ (x : ℕ). except' x b) (sym rows) (subst (λ (x : ℕ). except' row x) (sym buckets) mine)))
      (free_at p.now f i level r b st except h (λ used. unused (same r b used)) (λ was. out (more r b was)) up))

-- A GROW

pub grow_puts_even : (m m' : Memory) (p : Past) (f : Flow) (i : ℕ) (text : List ℕ) (w : ResizeAlong) → KnowsGrow m p.now f i w (stage.PutHead Even) → IsMade (step.PutHead (w.level + 1) w.bucket (evens w)) m m'
    → KnowsGrow m' (told p i (Some (what.Lock (w.level + 1) w.bucket))).now (flow_of p f i text (step.PutHead (w.level + 1) w.bucket (evens w)) m) i w (stage.PutHead Odd)
grow_puts_even m m' p f i text w h made = (
  h.0,
  put_apart_row m m' p f i text (w.level + 1) w.bucket (evens w) made w.level w.bucket (evens w) (λ e. omega (arith, e)) h.1,
  h.2,
  put_locked m m' p f i text (w.level + 1) w.bucket (evens w) made,
  resizing_puts m m' p f i text (w.level + 1) w.bucket (evens w) made w.level (Growing w.bucket) (Growing w.bucket) NoHead (OneHead (w.level + 1) w.bucket) h.3 refl
      (λ r b used. used) (λ r b no. absurd no) (refl, refl),
)

pub grow_puts_odd : (m m' : Memory) (p : Past) (f : Flow) (i : ℕ) (text : List ℕ) (w : ResizeAlong) → KnowsGrow m p.now f i w (stage.PutHead Odd)
    → IsMade (step.PutHead (w.level + 1) (w.bucket + 2 ^ w.level) (odds w)) m m'
    → KnowsGrow m' (told p i (Some (what.Lock (w.level + 1) (w.bucket + 2 ^ w.level)))).now (flow_of p f i text (step.PutHead (w.level + 1) (w.bucket + 2 ^ w.level) (odds w)) m) i w
    (stage.RedirectHead Even)
grow_puts_odd m m' p f i text w h made =
    let size : 0 < 2 ^ w.level = omega (arith, h.0) in
    let bucket : ℕ = w.bucket + 2 ^ w.level in
    let off : w.bucket ≢ bucket = λ e. omega (arith, size, e) in (
      h.2,
      (
        h.0,
        put_apart_row m m' p f i text (w.level + 1) bucket (odds w) made w.level w.bucket (evens w) (λ e. omega (arith, e)) h.1,
        put_apart m m' p f i text (w.level + 1) bucket (odds w) made (w.level + 1) w.bucket (evens w) (λ rows buckets. off buckets) (other_buckets (w.level + 1) bucket (w.level + 1) w.bucket off) h.3,
        subst (HasLocked m' (told p i (Some (what.Lock (w.level + 1) bucket))).now i (w.level + 1) bucket) (ap (λ c. c.odd.first) h.2)
            (put_locked m m' p f i text (w.level + 1) bucket (odds w) made),
        resizing_puts m m' p f i text (w.level + 1) bucket (odds w) made w.level (Growing w.bucket) (Growing w.bucket) (OneHead (w.level + 1) w.bucket)
            (TwoHeads (w.level + 1) w.bucket bucket) h.4 refl (λ r b used. used) (λ r b one. (one.0, inl one.1)) (refl, inr refl),
      ),
    )

-- A SHRINK

-- a path from a node begins with it, and one from none has no node
path_first : (next : ℕ → Option ℕ) (x : ℕ) (nodes : List ℕ) → IsPath next (Some x) nodes → (rest : List ℕ) × (nodes ≡ x ∷ rest)
path_first next x [] path = absurd (cc)
path_first next x (y ∷ nodes) path = let same : Some x ≡ Some y = path.0 in let here : y ≡ x = cc in (nodes, ap (λ (z : ℕ). z ∷ nodes) here)

no_path : (next : ℕ → Option ℕ) (nodes : List ℕ) → IsPath next None nodes → nodes ≡ []
no_path next [] path = refl
no_path next (y ∷ nodes) path = absurd (let clash : None ≡ Some y = path.0 in cc)

-- a pair without even nodes is joined, and one with an even node is not
stage_joins : (chain : ℕ → ℕ → List ℕ) (k b : ℕ) → chain (k + 1) b ≡ [] → stage_put chain (Shrinking k b) ≡ Joining k b
stage_joins chain k b empty = ap (λ (nodes : List ℕ). elim nodes as (λ x. Stage) [ [] ↦ Joining k b | ◌∷◌ x rest ↦ Shrinking k b ]) empty

stage_waits : (chain : ℕ → ℕ → List ℕ) (k b x : ℕ) (rest : List ℕ) → chain (k + 1) b ≡ x ∷ rest → stage_put chain (Shrinking k b) ≡ Shrinking k b
stage_waits chain k b x rest some = ap (λ (nodes : List ℕ). elim nodes as (λ x. Stage) [ [] ↦ Joining k b | ◌∷◌ x rest ↦ Shrinking k b ]) some

module _ (t : Table) (m m' : Memory) (p : Past) (f : Flow) (i : ℕ) (text : List ℕ) (k b : ℕ) (even odd : Option ℕ) (table : IsTable t m p f)
    (h : Pair m p.now f i k b even odd (Shrinking k b) NoHead) (made : IsMade (step.PutHead k b (joined_first even odd)) m m') where
  abbrev pair_past : Past
  pair_past = told p i (Some (what.Lock k b))

  abbrev pair_flow : Flow
  pair_flow = flow_of p f i text (step.PutHead k b (joined_first even odd)) m

  up_row : k + 1 ≢ k
  up_row e = omega (arith, e)

  low_path : IsPath (links m) even (f.chain (k + 1) b)
  low_path = locked_chain t m p f i (k + 1) b even table (even_used p.now f i k b NoHead h.resizing h.below) h.low

  high_path : IsPath (links m) odd (f.chain (k + 1) (b + 2 ^ k))
  high_path = locked_chain t m p f i (k + 1) (b + 2 ^ k) odd table
      (left_used p.now f i (k + 1) (b + 2 ^ k) (Shrinking k b) NoHead h.resizing (omega arith, inr (omega arith)) (pair_below k b h.below).1) h.high

  -- the pair with its new head, at the stage that comes
  pair_puts : (st : Stage) → stage_put f.chain (Shrinking k b) ≡ st → ((r c : ℕ) → IsUsedAt (k + 1) (Shrinking k b) r c → IsUsedAt (k + 1) st r c)
      → HasPair m' pair_past.now pair_flow i k b even odd st
  pair_puts st to same = (
    record {
      below = h.below;
      low = put_apart_row m m' p f i text k b (joined_first even odd) made (k + 1) b even up_row h.low;
      high = put_apart_row m m' p f i text k b (joined_first even odd) made (k + 1) (b + 2 ^ k) odd up_row h.high;
      resizing = resizing_puts m m' p f i text k b (joined_first even odd) made (k + 1) (Shrinking k b) st NoHead (OneHead k b) h.resizing to same (λ r c no. absurd no) (refl, refl);
    },
    put_locked m m' p f i text k b (joined_first even odd) made,
  )

  -- where there is an even node the even chain is walked
  pub puts_even : (x : ℕ) → even ≡ Some x → HasPair m' pair_past.now pair_flow i k b even odd (Shrinking k b) × On x (pair_flow.chain (k + 1) b)
  puts_even x is =
      let first = path_first (links m) x (f.chain (k + 1) b) (subst (λ (from : Option ℕ). IsPath (links m) from (f.chain (k + 1) b)) is low_path) in
      (pair_puts (Shrinking k b) (stage_waits f.chain k b x first.0 first.1) (λ r c used. used), subst (λ (nodes : List ℕ). On x nodes) (sym first.1) (inl refl))

  -- where there is none both chains are joined as they are
  pub puts_none : even ≡ None → HasPair m' pair_past.now pair_flow i k b even odd (Joining k b) × Joint m' pair_flow k b (joined_first even odd)
  puts_none is =
      let none : f.chain (k + 1) b ≡ [] = no_path (links m) (f.chain (k + 1) b) (subst (λ (from : Option ℕ). IsPath (links m) from (f.chain (k + 1) b)) is low_path) in
      let path : IsPath (links m') (joined_first even odd) (f.chain (k + 1) (b + 2 ^ k)) =
      subst (λ (e : Option ℕ). IsPath (links m') (joined_first e odd) (f.chain (k + 1) (b + 2 ^ k))) (sym is)
      (path_kept (links m) (links m') odd (f.chain (k + 1) (b + 2 ^ k)) (λ s on. ap node_of (made.there (place.Link s) (λ e. cc))) high_path) in (
        pair_puts (Joining k b) (stage_joins f.chain k b none) (λ r c used. used),
        record {
          whole = f.chain (k + 1) (b + 2 ^ k);
          evens = [];
          order = refl;
          path = path;
          once = path_once (links m') (joined_first even odd) (f.chain (k + 1) (b + 2 ^ k)) path;
          even = λ s on. absurd (subst (λ (nodes : List ℕ). On s nodes) none on);
          odd = λ s on. on;
          back = λ s on. inr on;
        },
      )

-- what comes of the new head of a pair
pub shrink_puts : (t : Table) (m m' : Memory) (p : Past) (f : Flow) (i : ℕ) (text : List ℕ) (k : ℕ) (w : ResizeAlong) → IsTable t m p f → KnowsShrink m p.now f i k w (stage.PutHead Even)
    → IsMade (step.PutHead k w.bucket (joined_first (evens w) (odds w))) m m'
    → KnowsShrink m' (told p i (Some (what.Lock k w.bucket))).now (flow_of p f i text (step.PutHead k w.bucket (joined_first (evens w) (odds w))) m) i k w (joins_from (evens w))
shrink_puts t m m' p f i text k w table h made = by_first (evens w) refl
  where
    by_first : (first : Option ℕ) → evens w ≡ first
        → KnowsShrink m' (told p i (Some (what.Lock k w.bucket))).now (flow_of p f i text (step.PutHead k w.bucket (joined_first (evens w) (odds w))) m) i k w (joins_from first)
    by_first None is = puts_none t m m' p f i text k w.bucket (evens w) (odds w) table h made is
    by_first (Some x) is = puts_even t m m' p f i text k w.bucket (evens w) (odds w) table h made x is
