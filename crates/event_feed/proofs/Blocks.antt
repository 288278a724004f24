-- What running lines of a buffer, whatever they do, leaves of the block that waits in it. Assumes nothing.
use mathlib.Core.Path.{◌≡◌, sym, ap, ap₂, ◌∙◌}
use mathlib.Core.List.{List, [], ◌++◌}
use Prim.Native.Nat.{ℕ, ◌+◌, ◌-◌, ◌≤◌, ◌<◌}
use native.Mathlib.Decide.{dec_lt}
use native.Mathlib.Omega.{arith}
use lib.ListN.{length, take, drop}
use lib.Seq.{take-add, drop-drop, take-append-le, take-append-add, length-take-le, drop-length, take-length}
use Rattle.event_runs.specs.Lines.{whole_lines}
use Rattle.event_runs.specs.Texts.{last_line}
use Rattle.event_runs.proofs.Cuts.{Unfinished, take_unfinished, unfinished_last}
use Rattle.event_feed.specs.FeedConstants.{kept_bytes}
use Rattle.event_feed.specs.BlockFed.{BlockFed}
use Rattle.event_feed.specs.Places.{part}
use Rattle.event_feed.specs.RestOf.{RestOf}
use Rattle.event_feed.specs.declared.rest_of.Place.{Place}
use Rattle.event_feed.proofs.Parts.{drop_part, part_length}

no_bytes : (l : List ℕ) → l ≡ [] → length l ≡ 0
no_bytes l e = ap length e

-- the bytes of a buffer from `from` to `end`, of which the first `held` are a line that is not whole
module _ (from held end : ℕ) (buf exit : List ℕ) (inside : from + held ≤ end) (within : end ≤ length buf) where
  abbrev line : List ℕ
  line = part from held buf

  abbrev bytes : List ℕ
  bytes = part from (end - from) buf

  abbrev block : List ℕ
  block = part (from + held) (end - (from + held)) buf

  line_length : length line ≡ held
  line_length = part_length from held buf (omega arith)

  block_length : length block ≡ end - (from + held)
  block_length = part_length (from + held) (end - (from + held)) buf (omega arith)

  bytes_are : bytes ≡ line ++ block
  bytes_are =
      ap (λ (k : ℕ). take k (drop from buf)) (let e : end - from ≡ held + (end - (from + held)) = omega arith in e)
      ∙ take-add held (end - (from + held)) (drop from buf)
      ∙ ap (λ (l : List ℕ). line ++ take (end - (from + held)) l) (drop-drop held from buf)

  pub bytes_length : length bytes ≡ end - from
  bytes_length = part_length from (end - from) buf (omega arith)

  -- the first `ran` of them were run, the last with its line feed; none only where no line is whole
  module _ (ran : ℕ) (plain : Unfinished line) (ran-fits : ran ≤ length bytes) (ran-whole : last_line (take ran bytes) ≡ []) (ran_none : ran ≡ 0 → whole_lines bytes ≡ [])
      (place : Place) (kept : RestOf from end ran place buf exit) where
    abbrev left : List ℕ
    left = part (place.from + place.held) (place.end - (place.from + place.held)) exit

    abbrev Feeds : Type 0
    Feeds = BlockFed line block (whole_lines (take ran bytes)) (part place.from place.held exit) left

    -- ---- no line is whole

    feeds_none : ran ≡ 0 → Feeds
    feeds_none z =
        let k = kept.none z in
        let h = k.1 in
        let f = k.0 in
        let all : line ++ take (length block) block ≡ bytes = ap (λ (l : List ℕ). line ++ l) (take-length block) ∙ sym bytes_are in
        record {
          used = length block;
          fits = omega arith;
          progress = λ q. q;
          rest = ap (λ (j : ℕ). part (place.from + place.held) j exit) (let e : place.end - (place.from + place.held) ≡ 0 = omega arith in e) ∙ sym (drop-length block);
          run = take_unfinished ran bytes (ran_none z) ∙ sym (ap whole_lines all ∙ ran_none z);
          keeps = ap (λ (j : ℕ). part j place.held exit) f ∙ k.2 ∙ ap (take kept_bytes) (sym (ap last_line all ∙ unfinished_last bytes (ran_none z)));
        }

    -- ---- lines were run

    module _ (z : 0 < ran) where
      -- the first of them ended after what was held
      ended_after : held < ran
      ended_after = go (dec_lt held ran)
        where
          go : Dec (held < ran) → held < ran
          go (yes h) = h
          go (no h) =
              let a : take ran bytes ≡ take ran line = ap (take ran) bytes_are ∙ take-append-le ran line block (omega (arith, line_length)) in
              let b : Unfinished (take ran bytes) = ap whole_lines a ∙ take_unfinished ran line plain in
              let d : length (take ran bytes) ≡ 0 = no_bytes (take ran bytes) (sym (unfinished_last (take ran bytes) b) ∙ ran-whole) in
              absurd (let l = length-take-le ran bytes ran-fits in let y : ⊥ = omega arith in y)

      abbrev used : ℕ
      used = ran - held

      front : line ++ take used block ≡ take ran bytes
      front =
          sym (take-append-add line block used) ∙ ap (λ (l : List ℕ). take (length line + used) l) (sym bytes_are)
          ∙ ap (λ (j : ℕ). take j bytes) (let b = ended_after in let l = line_length in let e : length line + used ≡ ran = omega arith in e)

      -- for any place that leaves the right bytes
      feeds_lines : left ≡ drop used block → part place.from place.held exit ≡ [] → Feeds
      feeds_lines rest none =
          let b = ended_after in
          record {
            used = used;
            fits = omega (arith, block_length, bytes_length, ran-fits);
            progress = λ q. omega arith;
            rest = rest;
            run = ap whole_lines (sym front);
            keeps = none ∙ ap (take kept_bytes) (sym ran-whole ∙ ap last_line (sym front));
          }

      feeds_some : from + ran < end → Feeds
      feeds_some h =
          let k = kept.some z h in
          let f = k.0 in
          let g = k.1 in
          let e = k.2 in
          let b = ended_after in
          feeds_lines
          (ap₂ (λ (i j : ℕ). part i j exit)
          (let x : place.from + place.held ≡ from + held + used = omega arith in x)
          (let x : place.end - (place.from + place.held) ≡ end - (from + held) - used = omega arith in x)
          ∙ ap (part (from + held + used) (end - (from + held) - used)) k.3
          ∙ ap (take (end - (from + held) - used)) (sym (drop-drop used (from + held) buf))
          ∙ sym (drop_part used (end - (from + held)) (drop (from + held) buf)))
          (ap (λ (j : ℕ). part place.from j exit) g)

      feeds_all : end ≤ from + ran → Feeds
      feeds_all h =
          let k = kept.all z h in
          let f = k.0 in
          let g = k.1 in
          let e = k.2 in
          let b = ended_after in
          let m : used ≡ length block = omega (arith, block_length, bytes_length, ran-fits) in
          feeds_lines
          (ap (λ (j : ℕ). part (place.from + place.held) j exit) (let x : place.end - (place.from + place.held) ≡ 0 = omega arith in x)
          ∙ sym (drop-length block) ∙ ap (λ (j : ℕ). drop j block) (sym m))
          (ap (λ (j : ℕ). part place.from j exit) g)

    pub block_fed : Feeds
    block_fed = go (dec_lt 0 ran) (dec_lt (from + ran) end)
      where
        go : Dec (0 < ran) → Dec (from + ran < end) → Feeds
        go (yes h) (yes g) = feeds_some h g
        go (yes h) (no g) = feeds_all h (omega arith)
        go (no h) d = feeds_none (omega arith)
