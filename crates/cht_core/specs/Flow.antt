-- What neither the words nor the log say in so many words: the chains, how far a resize is, and who holds which handle.
use Rattle.std.specs.Prelude.{◌≡◌, ℕ, ◌+◌, ◌-◌, ◌^◌, ◌<◌, ◌⊎◌, ◌==◌, ◌&&◌, Bool, true, false, nat_eq, if◌then◌else◌, List, [], ◌∷◌, ◌++◌, Option, Some, None}
use Rattle.marked_word.specs.Head.{first_of}
use Rattle.marked_word.specs.Link.{node_of}
use Rattle.chain_core.specs.Path.{without}
use Rattle.intern_log.specs.declared.event.Handle.{Handle}
use Rattle.intern_log.specs.declared.event.What.{What}
use Rattle.intern_log.specs.declared.event.What.TheVariants as what
use Rattle.intern_log.specs.Now.{Now, with_at, owner_of}
use Rattle.intern_log.specs.TextMap.{handle_eq}
use Rattle.atomic_step.specs.declared.step.Edge.{Edge}
use Rattle.atomic_step.specs.declared.step.Edge.TheVariants as edge
use Rattle.atomic_step.specs.declared.step.Step.{Step}
use Rattle.atomic_step.specs.declared.step.Step.TheVariants as step
use Rattle.atomic_step.specs.Event.{event_of}
use Rattle.cht_core.specs.Stage.{Stage, Quiet, Growing, Splitting, Shrinking, Joining, Turning, Closing, Parted, Whole, Pending, Since, bucket_in, next_row, IsLeft, IsOpen, IsSent, IsUnsent, IsMixed}

-- the nodes of each head, by row and bucket; the place from which on callers come to it; how often each seat holds each handle; and how far
-- a resize is: its stage, the slots that were moved past on the other chain of their bucket, and the level before the last Level
pub record Flow : Type 0 where
  pub chain : ℕ → ℕ → List ℕ
  pub base : ℕ → ℕ → ℕ
  pub holds : ℕ → Handle → ℕ
  pub stage : Stage
  pub parted : ℕ → Parted
  pub before : ℕ

-- callers come to the head
abbrev pub IsUsed : Now → Flow → ℕ → ℕ → Type 0
IsUsed n f row bucket = ((row ≡ n.level) × IsLeft f.stage bucket × (bucket < 2 ^ row)) ⊎ ((row ≡ next_row f.stage n.level) × IsOpen f.stage n.level bucket)

-- a caller with this hash comes to a head of the row
abbrev pub ComesTo : Now → Flow → ℕ → ℕ → Type 0
ComesTo n f hash row = ((row ≡ n.level) × IsUnsent f.stage n.level hash) ⊎ ((row ≡ next_row f.stage n.level) × IsSent f.stage n.level hash)

-- a text with this hash may be on the chain of the head
abbrev pub IsHome : Now → Flow → ℕ → ℕ → ℕ → Type 0
IsHome n f row bucket hash = (bucket_in row hash ≡ bucket) ⊎ IsMixed f.stage n.level row bucket hash

-- CHAINS

-- the chains with another one at one head
abbrev pub with_chain : (ℕ → ℕ → List ℕ) → ℕ → ℕ → List ℕ → ℕ → ℕ → List ℕ
with_chain chain row bucket nodes r b = if nat_eq r row && nat_eq b bucket then nodes else chain r b

-- a row's pair of chains in one: the even one, and then the odd one; where the even chain leads on to the odd one, or is empty, they are in one already
abbrev pub joined : (ℕ → ℕ → List ℕ) → ℕ → ℕ → List ℕ
joined chain k b = chain (k + 1) b ++ chain (k + 1) (b + 2 ^ k)

abbrev pub or_else : List ℕ → List ℕ → List ℕ
or_else [] other = other
or_else (x ∷ nodes) other = x ∷ nodes

-- both new heads of a bucket begin with its chain, and the new head of a pair with what its even chain leads on to
abbrev pub chain_turned : ℕ → (ℕ → ℕ → List ℕ) → Stage → ℕ → ℕ → List ℕ
chain_turned level chain (Growing d) = with_chain (with_chain chain (level + 1) d (chain level d)) (level + 1) (d + 2 ^ level) (chain level d)
chain_turned level chain (Joining k b) = with_chain chain k b (or_else (chain (k + 1) b) (chain (k + 1) (b + 2 ^ k)))
chain_turned level chain _ = chain

abbrev pub chain_joined : (ℕ → ℕ → List ℕ) → Stage → ℕ → ℕ → List ℕ
chain_joined chain (Shrinking k b) = with_chain chain (k + 1) b (joined chain k b)
chain_joined chain _ = chain

-- whether a node stands on a list
abbrev pub is_on : ℕ → List ℕ → Bool
is_on node [] = false
is_on node (x ∷ nodes) = if nat_eq x node then true else is_on node nodes

-- the node to which an edge led leaves the chain of that edge
abbrev pub leaves : Option ℕ → List ℕ → List ℕ
leaves None nodes = nodes
leaves (Some x) nodes = without x nodes

abbrev pub chain_moved : Edge → ℕ → (ℕ → ℕ → List ℕ) → ℕ → ℕ → List ℕ
chain_moved (edge.Head row bucket) word chain = with_chain chain row bucket (leaves (first_of word) (chain row bucket))
chain_moved (edge.Link last) word chain = λ r b. if is_on last (chain r b) then leaves (node_of word) (chain r b) else chain r b

-- the chains after a step that found a word: an entry comes to the front of its chain, and a slot that is unlinked leaves its chain; a chain is
-- split as its bucket is redirected, a node is moved past, two chains are joined, and the joined one is published as their pair is redirected
abbrev pub chain_after : Now → Stage → Step → ℕ → (ℕ → ℕ → List ℕ) → ℕ → ℕ → List ℕ
chain_after n stage (step.CreateEntry h row bucket head) word chain = if word == head then with_chain chain row bucket (h.slot ∷ chain row bucket) else chain
chain_after n stage (step.Unlink slot from next) word chain = λ r b. without slot (chain r b)
chain_after n stage (step.RedirectHead row bucket first) word chain = chain_turned n.level chain stage
chain_after n stage (step.MoveEdge from next) word chain = chain_moved from word chain
chain_after n stage (step.JoinChains slot next) word chain = chain_joined chain stage
chain_after n stage _ word chain = chain

-- callers come to the new heads from the redirect of their bucket or pair on
abbrev pub with_base : (ℕ → ℕ → ℕ) → ℕ → ℕ → ℕ → ℕ → ℕ → ℕ
with_base base row bucket place r b = if nat_eq r row && nat_eq b bucket then place else base r b

abbrev pub base_turned : Now → (ℕ → ℕ → ℕ) → Stage → ℕ → ℕ → ℕ
base_turned n base (Growing d) = with_base (with_base base (n.level + 1) d n.place) (n.level + 1) (d + 2 ^ n.level) n.place
base_turned n base (Joining k b) = with_base base k b n.place
base_turned n base _ = base

abbrev pub base_after : Now → Stage → Step → (ℕ → ℕ → ℕ) → ℕ → ℕ → ℕ
base_after n stage (step.RedirectHead row bucket first) base = base_turned n base stage
base_after n stage _ base = base

-- STAGES

abbrev pub begins_at : ℕ → ℕ → Stage
begins_at level new = if new == level + 1 then Growing 0 else Shrinking new 0

-- a pair without even nodes is joined as it is
abbrev pub stage_put : (ℕ → ℕ → List ℕ) → Stage → Stage
stage_put chain (Shrinking k b) = joins (chain (k + 1) b)
  where
    joins : List ℕ → Stage
    joins [] = Joining k b
    joins (x ∷ nodes) = Shrinking k b
stage_put chain stage = stage

abbrev pub stage_turned : Stage → Stage
stage_turned (Growing d) = Splitting d
stage_turned (Joining k b) = Turning k b
stage_turned (Turning k b) = Shrinking k (b + 1)
stage_turned stage = stage

abbrev pub stage_joined : Stage → Stage
stage_joined (Shrinking k b) = Joining k b
stage_joined stage = stage

-- the first of the two new heads of a bucket is unlocked
abbrev pub stage_unlocked : ℕ → ℕ → ℕ → Stage → Stage
stage_unlocked level row bucket (Splitting a) = if nat_eq row (level + 1) && nat_eq bucket a then Growing (a + 1) else Splitting a
stage_unlocked level row bucket stage = stage

abbrev pub stage_after : Now → (ℕ → ℕ → List ℕ) → Step → Stage → Stage
stage_after n chain (step.PutNewLevel None) stage = Quiet
stage_after n chain (step.PutNewLevel (Some new)) stage = begins_at n.level new
stage_after n chain (step.PutHead row bucket first) stage = stage_put chain stage
stage_after n chain (step.RedirectHead row bucket first) stage = stage_turned stage
stage_after n chain (step.JoinChains slot next) stage = stage_joined stage
stage_after n chain (step.UnlockHead row bucket first) stage = stage_unlocked n.level row bucket stage
stage_after n chain (step.StoreLevel new) stage = Closing
stage_after n chain _ stage = stage

-- PARTED SLOTS

-- the seat has the resize lock
abbrev pub is_owner_in : Option ℕ → ℕ → Bool
is_owner_in None i = false
is_owner_in (Some k) i = nat_eq k i

abbrev pub raised_at : ℕ → Parted → Parted
raised_at place Pending = Since place
raised_at place part = part

abbrev pub with_parted : (ℕ → Parted) → Option ℕ → ℕ → Parted
with_parted parted None = parted
with_parted parted (Some x) = with_at parted x Pending

abbrev pub parted_moved : Edge → ℕ → (ℕ → Parted) → ℕ → Parted
parted_moved (edge.Head row bucket) word parted = with_parted parted (first_of word)
parted_moved (edge.Link last) word parted = with_parted parted (node_of word)

-- a bucket's slots are whole again with the first unlock after its unzipping
abbrev pub parted_unlocked : ℕ → ℕ → ℕ → Stage → (ℕ → Parted) → ℕ → Parted
parted_unlocked level row bucket (Splitting a) parted = if nat_eq row (level + 1) && nat_eq bucket a then (λ s. Whole) else parted
parted_unlocked level row bucket stage parted = parted

abbrev pub parted_after : Now → ℕ → Stage → Step → ℕ → (ℕ → Parted) → ℕ → Parted
parted_after n i stage (step.MoveEdge from next) word parted = parted_moved from word parted
parted_after n i stage step.RaiseCounter word parted = if is_owner_in (owner_of n.resizing) i then (λ s. raised_at n.place (parted s)) else parted
parted_after n i stage (step.UnlockHead row bucket first) word parted = parted_unlocked n.level row bucket stage parted
parted_after n i stage _ word parted = parted

abbrev pub before_after : Now → Step → ℕ → ℕ
before_after n (step.StoreLevel new) before = n.level
before_after n _ before = before

-- HOLDS

-- the holds with another number for one seat and one handle
abbrev pub with_hold : (ℕ → Handle → ℕ) → ℕ → Handle → ℕ → ℕ → Handle → ℕ
with_hold holds i h number k j = if nat_eq k i && handle_eq j h then number else holds k j

-- the holds after an event of a seat: a Create and a Take give one, and a Drop takes one away
abbrev pub holds_after : ℕ → Option What → (ℕ → Handle → ℕ) → ℕ → Handle → ℕ
holds_after i (Some (what.Create text h)) holds = with_hold holds i h (holds i h + 1)
holds_after i (Some (what.Take text h)) holds = with_hold holds i h (holds i h + 1)
holds_after i (Some (what.Drop h)) holds = with_hold holds i h (holds i h - 1)
holds_after i _ holds = holds

-- all of it after a step of a seat; the text is that of its call
abbrev pub flow_after : Now → Flow → ℕ → List ℕ → Step → ℕ → Flow
flow_after n f i text s word = record {
  chain = chain_after n f.stage s word f.chain;
  base = base_after n f.stage s f.base;
  holds = holds_after i (event_of text s word) f.holds;
  stage = stage_after n f.chain s f.stage;
  parted = parted_after n i f.stage s word f.parted;
  before = before_after n s f.before;
}
