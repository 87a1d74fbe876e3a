-- The law of every step of a table.
use Rattle.atomic_step.specs.declared.step.Step.{Step}
use Rattle.atomic_step.specs.declared.step.Step.TheVariants as step
use Rattle.cht_core.specs.Backs.{KeepsTable}
use Rattle.cht_core.proofs.CountSteps.{see_entry_keeps, see_handle_keeps, take_entry_keeps, change_entry_keeps}
use Rattle.cht_core.proofs.Creates.{create_entry_keeps}
use Rattle.cht_core.proofs.EndsUnzip.{unlock_head_keeps}
use Rattle.cht_core.proofs.Loads.{load_draws_keeps, load_counter_keeps, load_level_keeps, load_new_level_keeps, load_head_keeps, load_link_keeps, load_meta_keeps, load_text_keeps, load_count_keeps, load_section_keeps}
use Rattle.cht_core.proofs.Joins.{join_chains_keeps}
use Rattle.cht_core.proofs.Locking.{lock_head_keeps}
use Rattle.cht_core.proofs.LockSteps.{take_resize_lock_keeps, give_resize_lock_keeps}
use Rattle.cht_core.proofs.MoveSteps.{move_edge_keeps}
use Rattle.cht_core.proofs.NewLevels.{put_new_level_keeps}
use Rattle.cht_core.proofs.PutHeads.{put_head_keeps}
use Rattle.cht_core.proofs.Redirects.{redirect_head_keeps}
use Rattle.cht_core.proofs.SectionSteps.{draw_keeps, raise_counter_keeps, open_section_keeps, close_section_keeps}
use Rattle.cht_core.proofs.SlotSteps.{put_meta_keeps, put_text_keeps, put_link_keeps, put_count_keeps, put_next_generation_keeps, claim_slot_keeps, free_slot_keeps}
use Rattle.cht_core.proofs.StoreLevels.{store_level_keeps}
use Rattle.cht_core.proofs.Unlinking.{unlink_keeps}

-- a step that the table backs keeps it
pub table_keeps : (s : Step) → KeepsTable s
table_keeps step.LoadDraws = load_draws_keeps
table_keeps step.Draw = draw_keeps
table_keeps step.LoadCounter = load_counter_keeps
table_keeps (step.OpenSection number counter) = open_section_keeps number counter
table_keeps (step.CloseSection number) = close_section_keeps number
table_keeps step.LoadLevel = load_level_keeps
table_keeps step.LoadNewLevel = load_new_level_keeps
table_keeps (step.LoadHead row bucket) = load_head_keeps row bucket
table_keeps (step.LoadLink slot) = load_link_keeps slot
table_keeps (step.LoadMeta slot) = load_meta_keeps slot
table_keeps (step.LoadText slot at) = load_text_keeps slot at
table_keeps (step.LoadCount slot) = load_count_keeps slot
table_keeps (step.SeeEntry kind slot) = see_entry_keeps kind slot
table_keeps (step.SeeHandle change h) = see_handle_keeps change h
table_keeps (step.TakeEntry slot count) = take_entry_keeps slot count
table_keeps (step.ChangeEntry change h count) = change_entry_keeps change h count
table_keeps (step.ClaimSlot slot) = claim_slot_keeps slot
table_keeps (step.FreeSlot slot) = free_slot_keeps slot
table_keeps (step.PutMeta slot meta) = put_meta_keeps slot meta
table_keeps (step.PutText slot at word) = put_text_keeps slot at word
table_keeps (step.PutLink slot next) = put_link_keeps slot next
table_keeps (step.PutCount h holds) = put_count_keeps h holds
table_keeps (step.PutNextGeneration slot generation) = put_next_generation_keeps slot generation
table_keeps (step.CreateEntry h row bucket head) = create_entry_keeps h row bucket head
table_keeps step.RaiseCounter = raise_counter_keeps
table_keeps (step.LoadSection number) = load_section_keeps number
table_keeps (step.LockHead row bucket head) = lock_head_keeps row bucket head
table_keeps (step.UnlockHead row bucket first) = unlock_head_keeps row bucket first
table_keeps (step.Unlink slot from next) = unlink_keeps slot from next
table_keeps (step.TakeResizeLock number) = take_resize_lock_keeps number
table_keeps step.GiveResizeLock = give_resize_lock_keeps
table_keeps (step.PutHead row bucket first) = put_head_keeps row bucket first
table_keeps (step.PutNewLevel level) = put_new_level_keeps level
table_keeps (step.RedirectHead row bucket first) = redirect_head_keeps row bucket first
table_keeps (step.MoveEdge from next) = move_edge_keeps from next
table_keeps (step.StoreLevel level) = store_level_keeps level
table_keeps (step.JoinChains slot next) = join_chains_keeps slot next
