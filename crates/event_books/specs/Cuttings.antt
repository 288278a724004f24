-- Rule: Demand 3 of a text that comes in blocks: however the text is cut, the output is the same. That the books agree is said of the text's lines, which
-- no cutting changes.
use Rattle.std.specs.Prelude.{ℕ, ◌≡◌, List, ◌++◌}
use Rattle.std.proofs.Math.Option.{none}
use Rattle.event_feed.specs.Feed.{first, joined_blocks, finish_output, fed_all, outputs}
use Rattle.event_books.specs.EventLists.{events, fresh, fresh_room, InRenames, replies, replies_text}

module _ (copies views : ℕ) (textures retiring doomed spares newest stamps : List ℕ) (blocks : List (List ℕ)) where
  -- the outputs of the blocks, one after the other, and that of the text's end
  abbrev pub blocks_output : List ℕ
  blocks_output =
      let start = first (fresh textures retiring doomed spares newest stamps) in
      outputs copies views start blocks ++ finish_output copies views (fed_all copies views start blocks)

  -- where the text's lines stand in renames, they are the text of the version book's replies
  abbrev pub BlocksPrint : Type 0
  BlocksPrint =
      let room = fresh_room copies views textures retiring doomed spares newest stamps in
      InRenames room none (events (joined_blocks blocks)) → blocks_output ≡ replies_text 0 (replies room none (events (joined_blocks blocks)))

-- for every text and every cutting of it into blocks
unfoldable pub Demand3Blocks : Type 0
Demand3Blocks = (copies views : ℕ) (textures retiring doomed spares newest stamps : List ℕ) (blocks : List (List ℕ))
    → BlocksPrint copies views textures retiring doomed spares newest stamps blocks
