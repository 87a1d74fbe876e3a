-- Where the word of a step leads, where that hangs on a test.
use Rattle.std.proofs.Common.{◌≡◌, ◌≢◌, ◌↔◌, ◌<◌, ◌≤◌, ℕ, ◌+◌, ◌==◌, min, Bool, true, false, cond, List, length, Option, Some, None, refl, sym, ap, ◌∙◌}
use Rattle.std.proofs.lemmas.Bool.{eq-eqb, eqb-true, ne_eqb, lt-ltb, le-ltb}
use Rattle.text_words.specs.Hash.{hash_of}
use Rattle.text_words.specs.Words.{word_at, words_of}
use Rattle.marked_word.specs.Head.{is_redirected, first_of}
use Rattle.marked_word.specs.Link.{node_of}
use Rattle.marked_word.specs.Meta.{meta_word}
use Rattle.intern_log.specs.declared.event.Kind.TheVariants.{Counted}
use Rattle.atomic_step.specs.Count.{holds_of, handle_at}
use Rattle.atomic_step.specs.declared.answer.Answer.TheVariants as answer
use Rattle.call_machine.specs.declared.find.FindStage.{FindStage}
use Rattle.call_machine.specs.declared.find.FindStage.TheVariants as find
use Rattle.call_machine.specs.declared.find.Walk.{Walk}
use Rattle.call_machine.specs.declared.stage.Along.{Along}
use Rattle.call_machine.specs.declared.stage.Asked.{Asked}
use Rattle.call_machine.specs.declared.stage.CallStage.{CallStage}
use Rattle.call_machine.specs.declared.stage.CallStage.TheVariants as stage
use Rattle.call_machine.specs.declared.stage.Request.{Request}
use Rattle.call_machine.specs.Calls.{finds, found}
use Rattle.call_machine.specs.Find.{turned_to}
use Rattle.call_machine.specs.declared.node.NodeStage.TheVariants as node
use Rattle.call_machine.specs.Leave.{leaves_with, loses_with}
use Rattle.call_machine.specs.Node.{comes_to, compares_from, matches, met, passes}
use Rattle.call_machine.specs.Sought.{IsRequest, asked_of, meta_of}
use Rattle.intern_log.specs.declared.event.Handle.{Handle}
use Rattle.atomic_step.specs.declared.answer.Answer.{Answer}
use Rattle.call_machine.specs.declared.insert.InsertStage.TheVariants as insert
use Rattle.call_machine.specs.declared.stage.Goal.{Goal}
use Rattle.call_machine.specs.Insert as inserts
use Rattle.call_machine.specs.Insert.{next_slot, not_claimed, not_created, lost_head, puts_from}
use Rattle.cht_run.specs.Inserts.{created}
use Rattle.cht_run.specs.Walks.{headed, compared, counted, taken}

-- FINDING THE HEAD

-- the bucket of the text in the row of a level
pub turned_leads : (r : Request) (w : Along) (level : ℕ) (walk : Walk) (s : FindStage) → IsRequest r → walk ≡ turned_to r.sought.hash level w.walk →
    found (asked_of r) w (turned_to (hash_of r.seed r.sought.text.now) level w.walk, Some s) ≡ (record w { walk = walk }, stage.Find s)
turned_leads r w level walk s request is = ap (λ (z : Walk). (record w { walk = z }, stage.Find s)) (ap (λ h. turned_to h level w.walk) (sym request.sought.hash) ∙ sym is)

-- a walk at another head comes to the same
comes_same : (q : Asked) (w : Along) (walk : Walk) (head : ℕ) (x : Option ℕ) → comes_to q w head x ≡ comes_to q (record w { walk = walk }) head x
comes_same q w walk head None = refl
comes_same q w walk head (Some x) = refl

head_by : (q : Asked) (w : Along) (word : ℕ) (b : Bool) →
    finds q w word (cond b (Some find.LoadNewLevel) None) ≡ cond b (stage.Find find.LoadNewLevel) (comes_to q (record w { walk = record w.walk { head = word } }) word (first_of word))
head_by q w word true = refl
head_by q w word false = comes_same q w (record w.walk { head = word }) word (first_of word)

pub head_leads : (q : Asked) (w : Along) (word : ℕ) →
    found q w (record w.walk { head = word }, cond (is_redirected word) (Some find.LoadNewLevel) None) ≡ (record w { walk = record w.walk { head = word } }, headed q (record w { walk = record w.walk { head = word } }))
head_leads q w word = ap (λ s. (record w { walk = record w.walk { head = word } }, s)) (head_by q w word (is_redirected word))

pub new_head_leads : (q : Asked) (w : Along) (word : ℕ) →
    found q w (record w.walk { head = word }, None) ≡ (record w { walk = record w.walk { head = word } }, comes_to q (record w { walk = record w.walk { head = word } }) word (first_of word))
new_head_leads q w word = ap (λ s. (record w { walk = record w.walk { head = word } }, s)) (comes_same q w (record w.walk { head = word }) word (first_of word))

-- AT A NODE

-- where a word leads
abbrev Comes : Along × CallStage → Along × CallStage → Type 0
Comes x y = x ≡ y

pub count_leads : (q : Asked) (w : Along) (slot word : ℕ) → Comes (w, cond (holds_of word == 0) (stage.Node (node.Link slot)) (matches q w q.kind slot word)) (w, counted q w slot word)
count_leads q w slot word = refl

meta_by : (q : Asked) (w : Along) (slot word meta : ℕ) → meta ≡ meta_word (meta_of q.seed q.text) → Comes (w, stage.Node (cond (word == meta_word (meta_of q.seed q.text)) (compares_from q.text slot 0) (node.Link slot))) (w, compared q slot 0 (word == meta))
meta_by q w slot word meta is = ap (λ m. (w, stage.Node (cond (word == m) (compares_from q.text slot 0) (node.Link slot)))) (sym is)

pub meta_leads : (r : Request) (w : Along) (slot word meta : ℕ) → IsRequest r → meta ≡ meta_word r.sought.meta →
    Comes (w, stage.Node (cond (word == meta_word (meta_of r.seed r.sought.text.now)) (compares_from r.sought.text.now slot 0) (node.Link slot))) (w, compared (asked_of r) slot 0 (word == meta))
meta_leads r w slot word meta request is = meta_by (asked_of r) w slot word meta (is ∙ ap meta_word request.sought.meta)

pub take_leads : (q : Asked) (w : Along) (slot count word : ℕ) →
    Comes (w, cond (word == count) (leaves_with w.kept (met Counted q.goal (handle_at slot count))) (loses_with q.goal w.kept answer.Again)) (w, taken q w slot count (word == count))
take_leads q w slot count word = by_test (word == count)
  where
    by_test : (b : Bool) → Comes (w, cond b (leaves_with w.kept (met Counted q.goal (handle_at slot count))) (loses_with q.goal w.kept answer.Again)) (w, taken q w slot count b)
    by_test true = refl
    by_test false = refl

-- one more node was passed
pub link_leads : (q : Asked) (w : Along) (word passed : ℕ) (next : Option ℕ) → next ≡ node_of word → min (w.walk.passed + 1) 4294967295 ≡ passed →
    Comes (record w { walk = passes w.walk }, comes_to q w w.walk.head (node_of word)) (record w { walk = record w.walk { passed = passed } }, comes_to q (record w { walk = record w.walk { passed = passed } }) w.walk.head next)
link_leads q w word passed next is few =
    ap (λ n. (record w { walk = record w.walk { passed = n } }, comes_to q w w.walk.head (node_of word))) few
    ∙ ap (λ s. (record w { walk = record w.walk { passed = passed } }, s)) (comes_same q w (record w.walk { passed = passed }) w.walk.head (node_of word) ∙ ap (comes_to q (record w { walk = record w.walk { passed = passed } }) w.walk.head) (sym is))

-- a further word of the text was compared
pub word_leads : (q : Asked) (w : Along) (slot at word : ℕ) (same : Bool) → (same ≡ true) ↔ (word ≡ word_at q.text at) →
    Comes (w, stage.Node (cond (word == word_at q.text at) (compares_from q.text slot (at + 1)) (node.Link slot))) (w, compared q slot (at + 1) same)
word_leads q w slot at word same tests = ap (λ b. (w, stage.Node (cond b (compares_from q.text slot (at + 1)) (node.Link slot)))) (by_cases same (word == word_at q.text at) refl refl)
  where
    by_cases : (a b : Bool) → same ≡ a → (word == word_at q.text at) ≡ b → b ≡ a
    by_cases true true is found = refl
    by_cases false false is found = refl
    by_cases true false is found = let never : true ≡ false = sym (eq-eqb word (word_at q.text at) (tests.0 is)) ∙ found in absurd (cc)
    by_cases false true is found = let never : true ≡ false = sym (tests.1 (eqb-true word (word_at q.text at) found)) ∙ is in absurd (cc)

-- MAKING AN ENTRY

-- the slot was free
pub claim_leads : (q : Asked) (w : Along) (slot tried word cursor : ℕ) → word ≡ 0 → cursor ≡ next_slot q.shape.slots slot →
    Comes (cond (word == 0) (record w { cursor = next_slot q.shape.slots slot }, stage.Insert (insert.OwnCount slot)) (w, not_claimed q w slot tried)) (record w { cursor = cursor }, stage.Insert (insert.OwnCount slot))
claim_leads q w slot tried word cursor free is =
    ap (λ b. cond b (record w { cursor = next_slot q.shape.slots slot }, stage.Insert (insert.OwnCount slot)) (w, not_claimed q w slot tried)) (eq-eqb word 0 free) ∙ ap (λ n. (record w { cursor = n }, stage.Insert (insert.OwnCount slot))) (sym is)

pub taken_leads : (q : Asked) (w : Along) (slot tried word : ℕ) → word ≢ 0 →
    Comes (cond (word == 0) (record w { cursor = next_slot q.shape.slots slot }, stage.Insert (insert.OwnCount slot)) (w, not_claimed q w slot tried)) (w, not_claimed q w slot tried)
taken_leads q w slot tried word taken = ap (λ b. cond b (record w { cursor = next_slot q.shape.slots slot }, stage.Insert (insert.OwnCount slot)) (w, not_claimed q w slot tried)) (ne_eqb word 0 taken)

-- a further word of the text is stored, or all are
pub puts_word : (text : List ℕ) (h : Handle) (at : ℕ) → at < words_of (length text) → puts_from text h at ≡ insert.PutText h at
puts_word text h at less = ap (λ b. cond b (insert.PutText h at) (insert.PutLink h)) (lt-ltb at (words_of (length text)) less)

pub puts_link : (text : List ℕ) (h : Handle) (at : ℕ) → words_of (length text) ≤ at → puts_from text h at ≡ insert.PutLink h
puts_link text h at all = ap (λ b. cond b (insert.PutText h at) (insert.PutLink h)) (le-ltb at (words_of (length text)) all)

-- the head was the one that was loaded, or another
pub created_leads : (w : Along) (g : Goal) (h : Handle) (word : ℕ) → word ≡ w.walk.head → Comes (inserts.created w g h word) (created w g h None)
created_leads w g h word same = ap (λ b. cond b (record w { kept = None }, leaves_with None (answer.Created h)) (not_created w g h (lost_head word))) (eq-eqb word w.walk.head same)

pub lost_leads : (w : Along) (g : Goal) (h : Handle) (word : ℕ) (a : Answer) → word ≢ w.walk.head → a ≡ lost_head word → Comes (inserts.created w g h word) (created w g h (Some a))
lost_leads w g h word a other is = ap (λ b. cond b (record w { kept = None }, leaves_with None (answer.Created h)) (not_created w g h (lost_head word))) (ne_eqb word w.walk.head other) ∙ ap (not_created w g h) (sym is)
