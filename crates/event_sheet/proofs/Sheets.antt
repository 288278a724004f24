-- Laws of the sheet of a session: there is room for it, and it is what the call prints. Assumes nothing.
use mathlib.Core.Path.{◌≡◌, refl, ap, ◌∙◌}
use mathlib.Core.Bool.{true, false}
use mathlib.Core.List.{List}
use Prim.Native.Nat.{ℕ, ◌≤◌}
use native.Mathlib.Omega.{arith}
use borrow.Author.Tests.{le-ltb}
use lib.ListN.{length, drop, length-append}
use Rattle.std.specs.Prelude.{Result, Ok, Err}
use Rattle.std.specs.Result.{result_unwrap_or}
use Rattle.base_blocks.specs.Lists.{over}
use Rattle.grid_shapes.specs.declared.refusal.Refusal.{Refusal}
use Rattle.pool_memory.specs.IsPool.{is_pool}
use Rattle.pool_memory.specs.Lent.{Lent}
use Rattle.pool_memory.specs.Calls.{Told, answer}
use Rattle.pool_memory.proofs.FromPool.{pool_fits}
use Rattle.pool_sheet.specs.PrintSheet.{sheet_of, sheet_told, printed_in, print_sheet_on}
use Rattle.pool_sheet.proofs.OfRecords.{sheet_bytes}
use Rattle.pool_sheet.proofs.Told.{records_there}
use Rattle.event_sessions.specs.Sessions.{SessionState, HoldsPool}
use Rattle.event_sheet.specs.Printed.{bytes_told, most_sheet_bytes}
use Rattle.event_sheet.specs.SheetText.{sheet_text}

-- no more textures are tracked than there are places
pub sheet_most : (l : Lent) → is_pool l ≡ true → length (sheet_of l) ≤ most_sheet_bytes (length l.textures)
sheet_most l e = let f = pool_fits l e in omega (arith, sheet_bytes l f, records_there l f)

-- with room for it, the call answers its length and puts it at the front
with_room : (l : Lent) (out : List ℕ) → is_pool l ≡ true → length (sheet_of l) ≤ length out
    → print_sheet_on l out ≡ (answer (length (sheet_of l)), over (sheet_of l) out)
unfolding print_sheet_on printed_in
with_room l out e h = rw (e, le-ltb (length out) (length (sheet_of l)) h) refl

module _ (s : SessionState) (out : List ℕ) where
  pub unopened_sheet : s.opened ≡ false → (0 ≡ length (sheet_text s)) × (out ≡ over (sheet_text s) out)
  unfolding sheet_text over
  unopened_sheet e = rw e (refl, refl)

  pub opened_sheet : s.opened ≡ true → HoldsPool s → most_sheet_bytes (length s.lent.textures) ≤ length out → (told : Told ℕ) (exit : List ℕ)
      → (told, exit) ≡ print_sheet_on s.lent out → (bytes_told told ≡ length (sheet_text s)) × (exit ≡ over (sheet_text s) out)
  unfolding sheet_text
  opened_sheet e holds room told exit says =
      let p = holds e in
      let k = sheet_most s.lent p in
      let w = says ∙ with_room s.lent out p (omega (arith, k, room)) in
      rw e (ap (λ (x : Told ℕ × List ℕ). bytes_told x.0) w, ap (λ (x : Told ℕ × List ℕ). x.1) w)

-- how many bytes were printed
pub bytes_printed : (r : Result ℕ Refusal) → result_unwrap_or r 0 ≡ bytes_told (sheet_told r)
bytes_printed (Ok n) = refl
bytes_printed (Err e) = refl

-- text laid over what was there is no longer than what stands there now
pub laid_within : (n : ℕ) (text out exit : List ℕ) → n ≡ length text → exit ≡ over text out → n ≤ length exit
unfolding over
laid_within n text out exit e laid = omega (arith, e, ap length laid, length-append text (drop (length text) out))
