-- Growing and shrinking: the row of heads of another level is made, pair by pair, and then the level is stored.
use Rattle.std.specs.Prelude.{ℕ, ◌+◌, ◌-◌, ◌/◌, ◌%◌, ◌^◌, ◌==◌, min, nat_lt, if◌then◌else◌, Option, Some, None}
use Rattle.marked_word.specs.Link.{node_of}
use Rattle.marked_word.specs.Meta.{hash_in}
use Rattle.table_shape.specs.declared.shape.Shape.{Shape}
use Rattle.atomic_step.specs.declared.answer.Answer.{Answer}
use Rattle.atomic_step.specs.declared.answer.Answer.TheVariants as answer
use Rattle.atomic_step.specs.declared.answer.Worked.{Worked}
use Rattle.atomic_step.specs.declared.step.Edge.{Edge}
use Rattle.atomic_step.specs.declared.step.Edge.TheVariants as edge
use Rattle.atomic_step.specs.declared.step.Step.TheVariants as step
use Rattle.atomic_step.specs.Turn.{Row, row, map_row}
use Rattle.call_machine.specs.declared.grace.GraceStage.TheVariants.{RaiseCounter, LoadSection}
use Rattle.call_machine.specs.declared.grace.Gracing.{Gracing}
use Rattle.call_machine.specs.declared.grace.Gracing.TheVariants as gracing
use Rattle.call_machine.specs.declared.lock.LockStage.TheVariants.{LoadHead}
use Rattle.call_machine.specs.declared.lock.Locking.{Locking}
use Rattle.call_machine.specs.declared.lock.Locking.TheVariants as locking
use Rattle.call_machine.specs.declared.resize.AfterGrace.{AfterGrace}
use Rattle.call_machine.specs.declared.resize.AfterGrace.TheVariants as after
use Rattle.call_machine.specs.declared.resize.Chain.{Chain}
use Rattle.call_machine.specs.declared.resize.Chains.{Chains}
use Rattle.call_machine.specs.declared.resize.Direction.{Direction}
use Rattle.call_machine.specs.declared.resize.Direction.TheVariants.{Grow, Shrink}
use Rattle.call_machine.specs.declared.resize.JoinStage.{JoinStage}
use Rattle.call_machine.specs.declared.resize.JoinStage.TheVariants as join
use Rattle.call_machine.specs.declared.resize.ResizeAlong.{ResizeAlong}
use Rattle.call_machine.specs.declared.resize.ResizeStage.{ResizeStage}
use Rattle.call_machine.specs.declared.resize.ResizeStage.TheVariants.{PutNewLevel, Lock, PutHead, RedirectHead, Unzip, Join, UnlockHead, Grace, StoreLevel, ClearNewLevel, GiveResizeLock}
use Rattle.call_machine.specs.declared.resize.Side.{Side}
use Rattle.call_machine.specs.declared.resize.Side.TheVariants.{Even, Odd}
use Rattle.call_machine.specs.declared.resize.UnzipStage.{UnzipStage}
use Rattle.call_machine.specs.declared.resize.UnzipStage.TheVariants as unzip
use Rattle.call_machine.specs.Grace.{grace_row, held_back, counts_grace}
use Rattle.call_machine.specs.Lock.{lock_row}
use Rattle.call_machine.specs.Pass.{first_behind}

-- the level to which a resize leads, and how far the two buckets of a pair are apart: half of the wider row
abbrev pub end_level : Direction → ℕ → ℕ
end_level Grow level = level + 1
end_level Shrink level = level - 1

abbrev pub half : Direction → ℕ → ℕ
half Grow level = 2 ^ level
half Shrink level = 2 ^ (level - 1)

-- the bucket of a side of the present pair
abbrev pub bucket_at : Direction → ResizeAlong → Side → ℕ
bucket_at d w Even = w.bucket
bucket_at d w Odd = w.bucket + half d w.level

abbrev pub other : Side → Side
other Even = Odd
other Odd = Even

-- the chain of a side, and chains that begin with these nodes
abbrev pub chain_at : Chains → Side → Chain
chain_at chains Even = chains.even
chain_at chains Odd = chains.odd

abbrev pub chain_from : Option ℕ → Chain
chain_from first = record { first = first; last = None }

abbrev pub chains_from : Option ℕ → Option ℕ → Chains
chains_from even odd = record { even = chain_from even; odd = chain_from odd }

-- the first node of a head that is made: a shrink leads both chains from one
abbrev pub joined_first : Option ℕ → Option ℕ → Option ℕ
joined_first None odd = odd
joined_first (Some x) odd = Some x

abbrev pub new_first : Direction → Chains → Side → Option ℕ
new_first Grow chains side = (chain_at chains side).first
new_first Shrink chains side = joined_first chains.even.first chains.odd.first

-- a resize that begins at a level
abbrev pub begun_resize : ℕ → ResizeAlong
begun_resize level_of = record { level = level_of; bucket = 0; chains = chains_from None None; rest = None; passed = 0; grace = record { raised = 0; next = 0 }; graces = 0 }

-- what came of a step: the next stage, and what the poll answers, if anything
abbrev pub Went : Type 0
Went = ResizeAlong × ResizeStage × Option Answer

abbrev pub goes : ResizeAlong → ResizeStage → Went
goes w s = (w, s, None)

-- a grace comes next, if one may begin
abbrev pub raises : ResizeAlong → AfterGrace → Went
raises w then_do = (w, Grace then_do RaiseCounter, held_back w.grace.raised)

-- what a poll answers without a step
abbrev pub resumed : ResizeAlong → ResizeStage → Option Answer
resumed w (Grace then_do RaiseCounter) = held_back w.grace.raised
resumed w _ = None

-- a bucket is locked, and this is its first node: a grow has one old bucket for a pair, and a shrink two
abbrev pub has_locked : Direction → ResizeAlong → Side → Option ℕ → Went
has_locked Grow w side first = goes (record w { chains = chains_from first first }) (PutHead Even)
has_locked Shrink w Even first = goes (record w { chains = chains_from first None }) (Lock Odd LoadHead)
has_locked Shrink w Odd first = goes (record w { chains = chains_from w.chains.even.first first }) (PutHead Even)

abbrev pub locks_on : Direction → ResizeAlong → Side → Locking → Went
locks_on d w side (locking.Goes s) = goes w (Lock side s)
locks_on d w side locking.Waits = (w, Lock side LoadHead, Some (answer.PendingBucket w.level (bucket_at d w side)))
locks_on d w side (locking.Locked first) = has_locked d w side first

-- along the even chain to its end, or where there is none at once to the redirects
abbrev pub joins_from : Option ℕ → ResizeStage
joins_from None = RedirectHead Even
joins_from (Some x) = Join (join.LoadLink x)

-- a grow makes two heads and redirects one, and a shrink makes one and redirects two
abbrev pub after_put : Direction → Chains → Side → ResizeStage
after_put Grow chains Even = PutHead Odd
after_put Grow chains Odd = RedirectHead Even
after_put Shrink chains side = joins_from chains.even.first

-- at the next node of a chain that is unzipped, or at its end
abbrev pub unzips_on : Option ℕ → ResizeStage
unzips_on None = UnlockHead Even
unzips_on (Some x) = Unzip (unzip.LoadMeta x)

abbrev pub redirected : Direction → ResizeAlong → Side → Went
redirected Grow w side = goes w (unzips_on w.chains.even.first)
redirected Shrink w Even = goes w (RedirectHead Odd)
redirected Shrink w Odd = raises w after.UnlockHead

-- the next pair, or the level
abbrev pub next_pair : Direction → ResizeAlong → Went
next_pair d w = if nat_lt (w.bucket + 1) (half d w.level) then goes (record w { bucket = w.bucket + 1; passed = 0 }) (Lock Even LoadHead) else goes w StoreLevel

abbrev pub unlocked : Direction → ResizeAlong → Side → Went
unlocked Grow w Even = goes w (UnlockHead Odd)
unlocked Grow w Odd = next_pair Grow w
unlocked Shrink w side = next_pair Shrink w

-- one more node of the pair was looked at; a count that has reached 2^32 - 1 stays
abbrev pub looks_at : ResizeAlong → ResizeAlong
looks_at w = record w { passed = min (w.passed + 1) 4294967295 }

-- the side to which a node belongs: bit `level` of the hash of its text
abbrev pub side_of : ℕ → ℕ → Side
side_of level hash = if hash / 2 ^ level % 2 == 1 then Odd else Even

-- the end so far of the chain of a side: the link of its last node, or where there is none its locked head
abbrev pub edge_from : ℕ → ℕ → Option ℕ → Edge
edge_from row_of bucket None = edge.Head row_of bucket
edge_from row_of bucket (Some last) = edge.Link last

abbrev pub end_of : Direction → ResizeAlong → Side → Edge
end_of d w side = edge_from (end_level d w.level) (bucket_at d w side) (chain_at w.chains side).last

-- at a node of one side the end of the other is moved past it, and the node is the last of its own
abbrev pub leads_to : Chain → Option ℕ → Chain
leads_to chain next = record chain { first = first_behind chain.last chain.first next }

abbrev pub moved : Chains → ℕ → Side → Option ℕ → Chains
moved chains x Even next = record { even = record chains.even { last = Some x }; odd = leads_to chains.odd next }
moved chains x Odd next = record { even = leads_to chains.even next; odd = record chains.odd { last = Some x } }

-- unzipping a chain into two
abbrev pub unzip_row : Direction → ResizeAlong → UnzipStage → Row Went
unzip_row d w (unzip.LoadMeta x) = row (step.LoadMeta x) (λ word. goes (looks_at w) (Unzip (unzip.LoadLink x (side_of w.level (hash_in word)))))
unzip_row d w (unzip.LoadLink x side) = row (step.LoadLink x) (λ word. goes w (Unzip (unzip.MoveEdge x side (node_of word))))
unzip_row d w (unzip.MoveEdge x side next) = row (step.MoveEdge (end_of d w (other side)) next) (λ word. raises (record w { chains = moved w.chains x side next; rest = next }) after.Unzip)

-- joining two chains: the last even link is made to lead to the odd chain
abbrev pub joins_at : ℕ → Option ℕ → ResizeStage
joins_at x None = Join (join.JoinChains x)
joins_at x (Some y) = Join (join.LoadLink y)

abbrev pub join_row : ResizeAlong → JoinStage → Row Went
join_row w (join.LoadLink x) = row (step.LoadLink x) (λ word. goes (looks_at w) (joins_at x (node_of word)))
join_row w (join.JoinChains x) = row (step.JoinChains x w.chains.odd.first) (λ word. goes w (RedirectHead Even))

-- what a resize does once its grace is over
abbrev pub after_grace : ResizeAlong → AfterGrace → ResizeStage
after_grace w after.Unzip = unzips_on w.rest
after_grace w after.UnlockHead = UnlockHead Even
after_grace w after.ClearNewLevel = ClearNewLevel

-- what came of a step of a grace
abbrev pub graces_on : ResizeAlong → AfterGrace → Gracing → Went
graces_on w then_do gracing.Goes = goes w (Grace then_do LoadSection)
graces_on w then_do gracing.Waits = (w, Grace then_do LoadSection, Some (answer.PendingSeat w.grace.next))
graces_on w then_do gracing.Over = goes w (after_grace w then_do)

-- what a finished resize did
abbrev pub worked : Direction → ResizeAlong → Worked
worked d w = record { unlinked = 0; graces = w.graces; level = end_level d w.level }

-- what comes at each stage
abbrev pub resize_row : Shape → Direction → ResizeAlong → ResizeStage → Row Went
resize_row shape d w PutNewLevel = row (step.PutNewLevel (Some (end_level d w.level))) (λ word. goes w (Lock Even LoadHead))
resize_row shape d w (Lock side s) = map_row (locks_on d w side) (lock_row w.level (bucket_at d w side) s)
resize_row shape d w (PutHead side) = row (step.PutHead (end_level d w.level) (bucket_at d w side) (new_first d w.chains side)) (λ word. goes w (after_put d w.chains side))
resize_row shape d w (RedirectHead side) = row (step.RedirectHead w.level (bucket_at d w side) (chain_at w.chains side).first) (λ word. redirected d w side)
resize_row shape d w (Unzip s) = unzip_row d w s
resize_row shape d w (Join s) = join_row w s
resize_row shape d w (UnlockHead side) = row (step.UnlockHead (end_level d w.level) (bucket_at d w side) (new_first d w.chains side)) (λ word. unlocked d w side)
resize_row shape d w (Grace then_do s) = map_row (λ came. graces_on (record w { grace = came.0; graces = counts_grace s w.graces }) then_do came.1) (grace_row shape.seats w.grace s)
resize_row shape d w StoreLevel = row (step.StoreLevel (end_level d w.level)) (λ word. raises w after.ClearNewLevel)
resize_row shape d w ClearNewLevel = row (step.PutNewLevel None) (λ word. goes w GiveResizeLock)
resize_row shape d w GiveResizeLock = row step.GiveResizeLock (λ word. (w, GiveResizeLock, Some (answer.Done (worked d w))))
