-- What a seat holds after a call that took a hold or made an entry.
use Rattle.std.proofs.Common.{◌≡◌, ℕ, ◌+◌, Bool, true, false, cond, ◌&&◌, ◌||◌, List, [], ◌∷◌, ◌++◌, map, filter, count_by, refl, sym, ap, ◌∙◌, arith}
use Rattle.std.proofs.lemmas.List.Folds.{list_any-append}
use Rattle.std.proofs.lemmas.List.Sums.{sum_by-append}
use Rattle.std.specs.List.{list_any}
use Rattle.intern_log.specs.declared.event.Event.{Event}
use Rattle.intern_log.specs.declared.event.Handle.{Handle}
use Rattle.intern_log.specs.declared.event.Kind.TheVariants.{Counted}
use Rattle.intern_log.specs.declared.event.What.{What}
use Rattle.intern_log.specs.declared.event.What.TheVariants as what
use Rattle.intern_log.specs.Log.{creates}
use Rattle.intern_log.specs.Own.{is_visible, is_among, is_gain, is_loss, mine, gains, losses}
use Rattle.intern_log.proofs.Logs.{mine-append}
use Rattle.intern_log.proofs.Handles.{same_as_itself}
use Rattle.atomic_step.specs.declared.answer.Answer.TheVariants as answer
use Rattle.call_machine.specs.declared.stage.Goal.{Goal}
use Rattle.call_machine.specs.declared.stage.Goal.TheVariants.{Lookup}
use Rattle.call_machine.specs.CallEvents.{hit_event}
use Rattle.cht_core.specs.Begins.{IsHeld, IsCreated}
use Rattle.cht_core.specs.Past.{by}
use Rattle.cht_core.specs.Windows.{whats_by}
use Rattle.cht_run.specs.declared.seat.Seat.{Seat}
use Rattle.cht_run.specs.declared.sight.Entry.{Entry}
use Rattle.cht_run.specs.declared.sight.Entry.TheVariants as entry
use Rattle.cht_run.specs.declared.table.Cht.{Cht}
use Rattle.cht_run.specs.Begins.{HasLedger}
use Rattle.cht_run.specs.History.{log_of, entries_by, told_by}
use Rattle.cht_run.specs.Seats.{sight, history, seen, numbers}
use Rattle.cht_run.specs.Walked.{Walked}
use Rattle.cht_run.proofs.Histories.{log-append}

and_false : (b : Bool) → (b && false) ≡ false
and_false true = refl
and_false false = refl

and_true : (b : Bool) → (b && true) ≡ b
and_true true = refl
and_true false = refl

or_true : (b : Bool) → (b || true) ≡ true
or_true true = refl
or_true false = refl

-- what callers see of a window by some numbers is what they see of its entries by them
pub seen_by : (numbers : List ℕ) (window : List Entry) → mine (log_of window) numbers ≡ filter (λ (e : Event). is_visible e.what) (log_of (entries_by numbers window))
seen_by numbers [] = refl
seen_by numbers (entry.Drew i n ∷ window) = go (is_among numbers i) (seen_by numbers window)
  where
    go : (b : Bool) → mine (log_of window) numbers ≡ filter (λ (e : Event). is_visible e.what) (log_of (entries_by numbers window)) →
        mine (log_of window) numbers ≡ filter (λ (e : Event). is_visible e.what) (log_of (cond b (entry.Drew i n ∷ entries_by numbers window) (entries_by numbers window)))
    go true rest = rest
    go false rest = rest
seen_by numbers (entry.Told e ∷ window) = go (is_among numbers e.seat) (seen_by numbers window)
  where
    go : (b : Bool) → mine (log_of window) numbers ≡ filter (λ (e : Event). is_visible e.what) (log_of (entries_by numbers window)) →
        cond (is_visible e.what && b) (e ∷ mine (log_of window) numbers) (mine (log_of window) numbers)
        ≡ filter (λ (x : Event). is_visible x.what) (log_of (cond b (entry.Told e ∷ entries_by numbers window) (entries_by numbers window)))
    go true rest = ap (λ b. cond b (e ∷ mine (log_of window) numbers) (mine (log_of window) numbers)) (and_true (is_visible e.what)) ∙ ap (λ l. cond (is_visible e.what) (e ∷ l) l) rest
    go false rest = ap (λ b. cond b (e ∷ mine (log_of window) numbers) (mine (log_of window) numbers)) (and_false (is_visible e.what)) ∙ rest

pub log_told : (i : ℕ) (whats : List What) → log_of (map (told_by i) whats) ≡ map (by i) whats
log_told i [] = refl
log_told i (w ∷ whats) = ap (λ l. by i w ∷ l) (log_told i whats)

pub visible_told : (i : ℕ) (whats : List What) → filter (λ (e : Event). is_visible e.what) (map (by i) whats) ≡ map (by i) (filter is_visible whats)
visible_told i [] = refl
visible_told i (w ∷ whats) = go (is_visible w) (visible_told i whats)
  where
    go : (b : Bool) → filter (λ (e : Event). is_visible e.what) (map (by i) whats) ≡ map (by i) (filter is_visible whats) →
        cond b (by i w ∷ filter (λ (e : Event). is_visible e.what) (map (by i) whats)) (filter (λ (e : Event). is_visible e.what) (map (by i) whats)) ≡ map (by i) (cond b (w ∷ filter is_visible whats) (filter is_visible whats))
    go true rest = ap (λ l. by i w ∷ l) rest
    go false rest = rest

-- a call of a seat by which callers see one event adds that one to what they see of the seat
pub one_more : (numbers : List ℕ) (i : ℕ) (window : List Entry) (w : What) → entries_by numbers window ≡ map (told_by i) (whats_by i (log_of window)) → filter is_visible (whats_by i (log_of window)) ≡ w ∷ [] → mine (log_of window) numbers ≡ by i w ∷ []
one_more numbers i window w own shown =
    seen_by numbers window ∙ ap (λ l. filter (λ (e : Event). is_visible e.what) (log_of l)) own ∙ ap (filter (λ (e : Event). is_visible e.what)) (log_told i (whats_by i (log_of window)))
    ∙ visible_told i (whats_by i (log_of window)) ∙ ap (map (by i)) shown

counts_more : (p : Event → Bool) (log : List Event) (e : Event) → count_by p (log ++ e ∷ []) ≡ count_by p log + cond (p e) 1 0
counts_more p log e = let more : count_by p (log ++ e ∷ []) ≡ count_by p log + (0 + cond (p e) 1 0) = sum_by-append (λ (x : Event). cond (p x) 1 0) log (e ∷ []) in omega (arith, more)

-- one that gives it a hold: it holds the handle then
pub held_after : (old new : Seat) (window : List Entry) (w : What) (h : Handle) → history new ≡ history old ++ window → numbers new ≡ numbers old → HasLedger (sight old) →
    entries_by (numbers old) window ≡ map (told_by old.number) (whats_by old.number (log_of window)) → filter is_visible (whats_by old.number (log_of window)) ≡ w ∷ [] → is_gain w h ≡ true → is_loss w h ≡ false → IsHeld (seen new) (numbers new) h
held_after old new window w h whole same ledger own shown gain loss =
    let log : mine (seen new) (numbers new) ≡ mine (seen old) (numbers old) ++ by old.number w ∷ [] =
    ap (mine (seen new)) same ∙ ap (λ l. mine (log_of l) (numbers old)) whole ∙ ap (λ l. mine l (numbers old)) (log-append (history old) window) ∙ mine-append (seen old) (log_of window) (numbers old)
    ∙ ap (λ l. mine (seen old) (numbers old) ++ l) (one_more (numbers old) old.number window w own shown) in
    let more : gains (mine (seen new) (numbers new)) h ≡ gains (mine (seen old) (numbers old)) h + 1 =
    ap (λ l. gains l h) log ∙ counts_more (λ (e : Event). is_gain e.what h) (mine (seen old) (numbers old)) (by old.number w) ∙ ap (λ b. gains (mine (seen old) (numbers old)) h + cond b 1 0) gain in
    let less : losses (mine (seen new) (numbers new)) h ≡ losses (mine (seen old) (numbers old)) h + 0 =
    ap (λ l. losses l h) log ∙ counts_more (λ (e : Event). is_loss e.what h) (mine (seen old) (numbers old)) (by old.number w) ∙ ap (λ b. losses (mine (seen old) (numbers old)) h + cond b 1 0) loss in
    let few = ledger h in
    omega (arith, more, less, few)

-- AN INTERN THAT HAS AN ENTRY

module _ (cht : Cht) (g : Goal) (text : List ℕ) (old new : Seat) (h : Handle) where
  pub taken_is_held : Walked cht g text old new (answer.Taken h) → IsHeld (seen new) (numbers new) h
  taken_is_held w = held_after old new w.ended.window (what.Take text h) h w.ended.whole w.ended.keeps.numbers w.ledger w.ended.own w.ended.did.0.shown (same_as_itself h) refl

  pub made_is_held : Walked cht g text old new (answer.Created h) → IsHeld (seen new) (numbers new) h
  made_is_held w = held_after old new w.ended.window (what.Create text h) h w.ended.whole w.ended.keeps.numbers w.ledger w.ended.own w.ended.did.0.shown (same_as_itself h) refl

-- and a look-up that hits it in a counted table
pub hit_is_held : (cht : Cht) (text : List ℕ) (old new : Seat) (h : Handle) → cht.origin.table.kind ≡ Counted → Walked cht Lookup text old new (answer.Hit h) → IsHeld (seen new) (numbers new) h
hit_is_held cht text old new h is w =
    held_after old new w.ended.window (what.Take text h) h w.ended.whole w.ended.keeps.numbers w.ledger w.ended.own (w.ended.did.0.shown ∙ ap (λ k. hit_event k text h ∷ []) is) (same_as_itself h) refl

-- what is so of one event that callers see is so of one of the log
any_shown : (p : Event → Bool) (log : List Event) (numbers : List ℕ) → list_any p (mine log numbers) ≡ true → list_any p log ≡ true
any_shown p [] numbers any = any
any_shown p (e ∷ log) numbers any = go (is_visible e.what && is_among numbers e.seat) (p e) (any_shown p log numbers) any refl
  where
    go : (b c : Bool) → (list_any p (mine log numbers) ≡ true → list_any p log ≡ true) → list_any p (cond b (e ∷ mine log numbers) (mine log numbers)) ≡ true → p e ≡ c → (p e || list_any p log) ≡ true
    go b true rest is at = ap (λ x. x || list_any p log) at
    go true false rest is at = ap (λ x. p e || x) (rest (ap (λ x. x || list_any p (mine log numbers)) (sym at) ∙ is)) ∙ or_true (p e)
    go false false rest is at = ap (λ x. p e || x) (rest is) ∙ or_true (p e)

pub made_is_created : (cht : Cht) (g : Goal) (text : List ℕ) (old new : Seat) (h : Handle) → Walked cht g text old new (answer.Created h) → IsCreated (seen new) h
made_is_created cht g text old new h w =
    let e = w.ended in
    let one : mine (log_of e.window) (numbers old) ≡ by old.number (what.Create text h) ∷ [] = one_more (numbers old) old.number e.window (what.Create text h) e.own e.did.0.shown in
    let in_it : list_any (λ (e : Event). creates e.what h) (mine (log_of e.window) (numbers old)) ≡ true = ap (list_any (λ (e : Event). creates e.what h)) one ∙ ap (λ b. b || false) (same_as_itself h) in
    let later : list_any (λ (e : Event). creates e.what h) (log_of e.window) ≡ true = any_shown (λ (e : Event). creates e.what h) (log_of e.window) (numbers old) in_it in
    ap (list_any (λ (e : Event). creates e.what h)) (ap log_of e.whole ∙ log-append (history old) e.window) ∙ list_any-append (λ (e : Event). creates e.what h) (seen old) (log_of e.window)
    ∙ ap (λ b. list_any (λ (e : Event). creates e.what h) (seen old) || b) later ∙ or_true (list_any (λ (e : Event). creates e.what h) (seen old))
