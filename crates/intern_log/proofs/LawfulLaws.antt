-- Lawful logs by pieces and by one more event, and that each is legal.
use Rattle.std.proofs.Common.{◌≡◌, ℕ, List, [], ◌∷◌, ◌++◌, refl}
use Rattle.intern_log.specs.declared.event.Event.{Event}
use Rattle.intern_log.specs.declared.event.What.{What}
use Rattle.intern_log.specs.declared.event.What.TheVariants.{Create, Take, Found, Drop, Perm, Kill, Claim, Free, Open, Close, Grace, Lock, Unlock, Unlink, ResizeTaken, ResizeGiven, Level, Rehash}
use Rattle.intern_log.specs.Log.{Allows, map_after, IsLegalFrom, IsLegal, HandlesDiffer, map_of}
use Rattle.intern_log.specs.Now.{Now, opening, now_after_event, now_after}
use Rattle.intern_log.specs.declared.event.TableKind.{TableKind}
use Rattle.intern_log.specs.Lawful.{MayFollow, IsAllowedFrom, IsLawful}
use Rattle.intern_log.proofs.Logs.{IsFresh-prefix}
use Rattle.intern_log.proofs.Handles.{live_handles_differ_lem}

pub now_after-append : (now : Now) (xs ys : List Event) → now_after now (xs ++ ys) ≡ now_after (now_after now xs) ys
now_after-append now [] ys = refl
now_after-append now (x ∷ xs) ys = now_after-append (now_after_event now x) xs ys

pub IsAllowedFrom-append : (table : TableKind) (now : Now) (xs ys : List Event) → IsAllowedFrom table now xs → IsAllowedFrom table (now_after now xs) ys → IsAllowedFrom table now (xs ++ ys)
IsAllowedFrom-append table now [] ys front rest = rest
IsAllowedFrom-append table now (x ∷ xs) ys front rest = (front.0, IsAllowedFrom-append table (now_after_event now x) xs ys front.1 rest)

pub IsAllowedFrom-prefix : (table : TableKind) (now : Now) (xs ys : List Event) → IsAllowedFrom table now (xs ++ ys) → IsAllowedFrom table now xs
IsAllowedFrom-prefix table now [] ys allowed = tt
IsAllowedFrom-prefix table now (x ∷ xs) ys allowed = (allowed.0, IsAllowedFrom-prefix table (now_after_event now x) xs ys allowed.1)

pub IsAllowedFrom-rest : (table : TableKind) (now : Now) (xs ys : List Event) → IsAllowedFrom table now (xs ++ ys) → IsAllowedFrom table (now_after now xs) ys
IsAllowedFrom-rest table now [] ys allowed = allowed
IsAllowedFrom-rest table now (x ∷ xs) ys allowed = IsAllowedFrom-rest table (now_after_event now x) xs ys allowed.1

pub IsLawful-prefix : (table : TableKind) (xs ys : List Event) → IsLawful table (xs ++ ys) → IsLawful table xs
IsLawful-prefix table xs ys lawful = record { allowed = IsAllowedFrom-prefix table (opening table.min_level) xs ys lawful.allowed; fresh = IsFresh-prefix xs ys lawful.fresh }

-- what may follow is allowed by the map
pub MayFollow-allows : (table : TableKind) (now : Now) (seat : ℕ) (what : What) → MayFollow table now seat what → Allows now.texts what
MayFollow-allows table now seat (Create t h) may = may.0
MayFollow-allows table now seat (Take t h) may = may.1
MayFollow-allows table now seat (Found t h) may = may.1
MayFollow-allows table now seat (Drop h) may = may.1
MayFollow-allows table now seat (Perm h) may = may.1
MayFollow-allows table now seat (Kill h) may = may.1
MayFollow-allows table now seat (Claim s) may = tt
MayFollow-allows table now seat (Free s) may = tt
MayFollow-allows table now seat (Open c) may = tt
MayFollow-allows table now seat Close may = tt
MayFollow-allows table now seat Grace may = tt
MayFollow-allows table now seat (Lock r b) may = tt
MayFollow-allows table now seat (Unlock r b) may = tt
MayFollow-allows table now seat (Unlink s) may = tt
MayFollow-allows table now seat ResizeTaken may = tt
MayFollow-allows table now seat ResizeGiven may = tt
MayFollow-allows table now seat (Level l) may = tt
MayFollow-allows table now seat (Rehash n) may = tt

pub allowed_is_legal : (table : TableKind) (now : Now) (log : List Event) → IsAllowedFrom table now log → IsLegalFrom now.texts log
allowed_is_legal table now [] allowed = tt
allowed_is_legal table now (e ∷ log) allowed = (MayFollow-allows table now e.seat e.what allowed.0, allowed_is_legal table (now_after_event now e) log allowed.1)

pub lawful_is_legal : (table : TableKind) (log : List Event) → IsLawful table log → IsLegal log
lawful_is_legal table log lawful = allowed_is_legal table (opening table.min_level) log lawful.allowed

-- the map of the model is that of the log
pub texts-now_after : (now : Now) (log : List Event) → (now_after now log).texts ≡ map_after now.texts log
texts-now_after now [] = refl
texts-now_after now (e ∷ log) = texts-now_after (now_after_event now e) log

pub lawful_handles_differ : (table : TableKind) (log : List Event) → IsLawful table log → HandlesDiffer (map_of log)
lawful_handles_differ table log lawful = live_handles_differ_lem log (lawful_is_legal table log lawful)
