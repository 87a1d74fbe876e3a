-- What the word of a head says of its first node and its marks.
use Rattle.std.proofs.Common.{◌≡◌, ℕ, zero, suc, ◌+◌, ◌/◌, false, refl, sym, ap, ◌∙◌, Option, Some, None, arith}
use Rattle.std.proofs.lemmas.Bool.Decides.{nat_tests}
use Rattle.marked_word.specs.Head.{is_locked, first_of, locked}
use Rattle.marked_word.specs.Link.{link_word, node_of}
use Rattle.cht_core.specs.Heads.{used_head}

-- the node of a link's word is that node
pub node_of_link : (node : Option ℕ) → node_of (link_word node) ≡ node
node_of_link None = refl
node_of_link (Some s) = ap node_of (let next : s + 1 ≡ suc s = omega arith in next)

-- and the word of a node that a word names is that word
pub link_of_node : (word : ℕ) → link_word (node_of word) ≡ word
link_of_node zero = refl
link_of_node (suc k) = omega arith

-- a link's word is that of one node alone
pub link_of_one : (a b : Option ℕ) → link_word a ≡ link_word b → a ≡ b
link_of_one a b same = sym (node_of_link a) ∙ ap node_of same ∙ node_of_link b

-- the first node of a head's word
pub first_of_head : (first lock : Option ℕ) → first_of (used_head first lock) ≡ first
first_of_head first None = ap node_of quarter ∙ node_of_link first
  where
    quarter : used_head first None / 4 ≡ link_word first
    quarter = omega arith
first_of_head first (Some k) = ap node_of quarter ∙ node_of_link first
  where
    quarter : used_head first (Some k) / 4 ≡ link_word first
    quarter = omega arith

-- a head's word is that of one first node alone
pub one_first : (a b lock : Option ℕ) → used_head a lock ≡ used_head b lock → a ≡ b
one_first a b lock same = sym (first_of_head a lock) ∙ ap first_of same ∙ first_of_head b lock

-- a head without a lock mark is not locked
pub no_lock : (first lock : Option ℕ) → is_locked (used_head first lock) ≡ false → lock ≡ None
no_lock first None open_head = refl
no_lock first (Some k) open_head = absurd (grind (arith, nat_tests))

-- with its lock set it is the same head, locked
pub lock_set : (first : Option ℕ) (k : ℕ) → locked (used_head first None) ≡ used_head first (Some k)
lock_set first k = omega arith
