-- A trim's pass over the textures: one texture more. Assumes nothing.
use mathlib.Core.Path.{◌≡◌, refl, sym, ap, ap₂, ◌∙◌}
use mathlib.Core.Bool.{Bool, true, false, cond}
use mathlib.Core.List.{List, map, flat_map}
use Prim.Native.Nat.{ℕ, suc, ◌+◌, ◌-◌, ◌*◌, ◌/◌, ◌≤◌, ◌<◌}
use native.Mathlib.Numerals.{add-one}
use native.Mathlib.Omega.{arith}
use borrow.Author.Tests.{eq-eqb, ne_eqb}
use lib.Dec.{ltb}
use lib.ListN.{length, length-append}
use lib.Seq.{sets}
use Rattle.base_blocks.specs.Lists.{listed, total}
use Rattle.base_blocks.specs.Blocks.{moved}
use Rattle.base_blocks.proofs.Lists.{total_append}
use Rattle.base_blocks.proofs.Blocks.{moved_none}
use Rattle.base_blocks.proofs.Listed.{listed_same}
use Rattle.base_tables.specs.Records.{record_at}
use Rattle.base_tables.specs.Rings.{laid}
use Rattle.pool_rules.specs.Model.{Spare, Doomed, VersionState, doomed_bytes}
use Rattle.pool_rules.specs.HistorySizes.{newest_used, stamps_used}
use Rattle.pool_rules.specs.Trim.{aged_count, thinned, idle}
use Rattle.pool_records.specs.declared.texture.TextureRecord.{TextureRecord}
use Rattle.pool_records.specs.declared.spare.SpareRecord.{SpareRecord}
use Rattle.pool_records.specs.Starts.{grid_end, stamp_end}
use Rattle.pool_records.specs.Texture.{read_texture, write_texture, texture_in, spares_to}
use Rattle.pool_records.specs.Spare.{read_spare}
use Rattle.pool_records.specs.Doomed.{write_doomed}
use Rattle.pool_records.specs.Views.{spare_of}
use Rattle.pool_memory.specs.Lent.{Lent}
use Rattle.pool_memory.specs.Reading.{spare_read}
use Rattle.pool_memory.specs.Writing.{doomed_record, every_spare, newest_of, stamps_of, textures_after, spares_after, newest_after, stamps_after}
use Rattle.pool_memory.proofs.Fits.{Fits}
use Rattle.pool_memory.proofs.Runs.{first_grid, first_stamp, state_of}
use Rattle.pool_memory.proofs.HistoryRuns.{grid_count_at, stamp_count_at, grid_next, stamp_next, grids_in, stamps_in_lem}
use Rattle.pool_memory.proofs.Stays.{textures_fit_lem}
use Rattle.pool_memory.proofs.Tracked.{grid_at_lem, stamp_at_lem}
use Rattle.pool_memory.proofs.Passes.{texture_unread, spare_unread}
use Rattle.pool_take_doomed.specs.Given.{given_records}
use Rattle.pool_access.proofs.Totals.{total_next}
use Rattle.pool_trim.specs.declared.look_at.Look.{Look}
use Rattle.pool_trim.specs.declared.pass.Pass.{Pass}
use Rattle.pool_trim.specs.LookAt.{spare_in, look_of, look_at, looked_record, looked_put}
use Rattle.pool_trim.specs.Pass.{pass_on, given_one, trimmed}
use Rattle.pool_forget_texture.proofs.TextureRuns.{spares_in, spares_within, grids_end, stamps_end}
use Rattle.pool_trim.proofs.Looks.{count, look_here, few, idle_here, none_left, given_count, given_bytes, bytes_few, given_records_lem}
use Rattle.pool_trim.proofs.Sofar.{Sofar}
use Rattle.pool_trim.proofs.Steps.{textures_as, spares_as, newest_as, stamps_as, given_to, kept_to, given_next, dropped_next, doomed_next, textures_stay, spares_stay, newest_stays, stamps_stay, tracked_stays, kept_stay, grids_stay, stamps_used_stay}
use Rattle.grid_shapes.specs.ShapeConstants.{most_shape_bytes}
use Rattle.pool_records.specs.RecordConstants.{doomed_stride, retiring_stride, spare_stride, texture_stride}

-- what the numbers of a look are within
pub record Seen (l : Lent) (w : Pass) (look : Look) : Type 0 where
  pub few : look.aged ≤ look.own
  pub spares : w.first + look.own ≤ l.pool.kept
  pub staying : look.staying ≤ 1
  pub low : w.grids ≤ look.grid
  pub grids : look.grid + look.grids ≤ l.pool.grids
  pub stamps_low : w.stamps ≤ look.stamp
  pub stamps : look.stamp + look.stamps ≤ l.pool.stamps
  pub light : look.bytes * look.aged ≤ most_shape_bytes * look.aged

module _ (l : Lent) (now i : ℕ) (w : Pass) (T D S N P : List ℕ) (f : Fits l) (h : i < l.pool.tracked) (s : Sofar l now i w T D S N P) where
  abbrev t₀ : TextureRecord
  t₀ = texture_in l.textures i

  abbrev k₀ : ℕ
  k₀ = count now (state_of l i)

  abbrev out : Bool
  out = idle now (thinned now (state_of l i))

  -- ---- what is read now is what stood there

  pub record_now : texture_in T i ≡ t₀
  record_now =
      ap (λ (x : List ℕ). texture_in x i) s.textures ∙ texture_unread l (trimmed l now i) i (omega (arith, s.tracked, s.fewer))

  spare_now : (j : ℕ) → w.first ≤ j → record_at spare_stride read_spare S j ≡ record_at spare_stride read_spare l.spares j
  spare_now j q = ap (λ (x : List ℕ). record_at spare_stride read_spare x j) s.spares ∙ spare_unread l (trimmed l now i) j (omega (arith, s.kept, s.all))

  spares_now : listed (spare_in S) w.first t₀.spares ≡ (state_of l i).spares
  unfolding spare_read
  spares_now =
      listed_same (spare_in S) (spare_read l) t₀.spares w.first (spares_to l.textures i)
      (λ j q. ap spare_of (spare_now (w.first + j) (omega arith)) ∙ ap (λ (n : ℕ). spare_in l.spares (n + j)) s.first)
      ∙ sym (spares_in l i h)

  -- the next record is not written yet either, and holds where this one's history ends
  next_now : texture_in T (i + 1) ≡ texture_in l.textures (i + 1)
  next_now =
      ap (λ (x : List ℕ). texture_in x (i + 1)) s.textures
      ∙ texture_unread l (trimmed l now i) (i + 1) (omega (arith, s.tracked, s.fewer))

  pub grid_end_now : grid_end T l.pool.tracked l.pool.grids i ≡ (texture_in T i).grid + grid_count_at l i
  unfolding grid_end
  grid_end_now =
      ap (λ (t : TextureRecord). cond (ltb (i + 1) l.pool.tracked) t.grid l.pool.grids) next_now ∙ grids_end l i h f
      ∙ ap (λ (n : ℕ). n + grid_count_at l i) (sym (ap (λ (t : TextureRecord). t.grid) record_now ∙ grid_at_lem l i h f))

  pub stamp_end_now : stamp_end T l.pool.tracked l.pool.stamps i ≡ (texture_in T i).stamp + stamp_count_at l i
  unfolding stamp_end
  stamp_end_now =
      ap (λ (t : TextureRecord). cond (ltb (i + 1) l.pool.tracked) t.stamp l.pool.stamps) next_now ∙ stamps_end l i h f
      ∙ ap (λ (n : ℕ). n + stamp_count_at l i) (sym (ap (λ (t : TextureRecord). t.stamp) record_now ∙ stamp_at_lem l i h f))

  look_now : look_at now l.pool T S i w.first ≡ look_here l now i h
  unfolding look_at
  look_now =
      ap₂ (look_of now (texture_in T i) (aged_count now (listed (spare_in S) w.first (texture_in T i).spares)))
      (let z : grid_end T l.pool.tracked l.pool.grids i - (texture_in T i).grid ≡ grid_count_at l i = omega (arith, grid_end_now) in z)
      (let z : stamp_end T l.pool.tracked l.pool.stamps i - (texture_in T i).stamp ≡ stamp_count_at l i = omega (arith, stamp_end_now) in z)
      ∙ ap (λ (t : TextureRecord). look_of now t (aged_count now (listed (spare_in S) w.first t.spares)) (grid_count_at l i) (stamp_count_at l i)) record_now
      ∙ ap (λ (ss : List (Spare ℕ)). look_of now t₀ (aged_count now ss) (grid_count_at l i) (stamp_count_at l i)) spares_now

  given_now : (b k : ℕ) → given_records S b w.first k ≡ given_records l.spares b (spares_to l.textures i) k
  unfolding given_records
  given_now b k =
      listed_same (λ j. record { view = (record_at spare_stride read_spare S j).view; bytes = b })
      (λ j. record { view = (record_at spare_stride read_spare l.spares j).view; bytes = b })
      k w.first (spares_to l.textures i)
      (λ j q. ap (λ (x : SpareRecord). record { view = x.view; bytes = b }) (spare_now (w.first + j) (omega arith))
      ∙ ap (λ (n : ℕ). record { view = (record_at spare_stride read_spare l.spares (n + j)).view; bytes = b }) s.first)

  module _ (look : Look) (e : look ≡ look_at now l.pool T S i w.first) where
    here : look ≡ look_here l now i h
    here = e ∙ look_now

    own_is : look.own ≡ t₀.spares
    unfolding look_of
    own_is = ap (λ (x : Look). x.own) here

    aged_is : look.aged ≡ k₀
    unfolding look_of
    aged_is = ap (λ (x : Look). x.aged) here

    pub grid_read_lem : look.grid ≡ (texture_in T i).grid
    unfolding look_of
    grid_read_lem = ap (λ (x : Look). x.grid) here ∙ ap (λ (t : TextureRecord). t.grid) (sym record_now)

    grid_is : look.grid ≡ first_grid l i
    unfolding look_of
    grid_is = ap (λ (x : Look). x.grid) here ∙ grid_at_lem l i h f

    pub stamp_read : look.stamp ≡ (texture_in T i).stamp
    unfolding look_of
    stamp_read = ap (λ (x : Look). x.stamp) here ∙ ap (λ (t : TextureRecord). t.stamp) (sym record_now)

    stamp_is : look.stamp ≡ first_stamp l i
    unfolding look_of
    stamp_is = ap (λ (x : Look). x.stamp) here ∙ stamp_at_lem l i h f

    staying_is : look.staying ≡ cond out 0 1
    unfolding look_of
    staying_is = ap (λ (x : Look). x.staying) here ∙ ap (λ (b : Bool). cond b 0 1) (sym (idle_here l now i h f))

    grids_is : look.grids ≡ cond out 0 (grid_count_at l i)
    unfolding look_of
    grids_is = ap (λ (x : Look). x.grids) here ∙ ap (λ (b : Bool). cond b 0 (grid_count_at l i)) (sym (idle_here l now i h f))

    stamps_is : look.stamps ≡ cond out 0 (stamp_count_at l i)
    unfolding look_of
    stamps_is = ap (λ (x : Look). x.stamps) here ∙ ap (λ (b : Bool). cond b 0 (stamp_count_at l i)) (sym (idle_here l now i h f))

    bytes_is : look.bytes * look.aged ≡ t₀.bytes * k₀
    unfolding look_of
    bytes_is = ap (λ (x : Look). x.bytes * x.aged) here

    choice : (b : Bool) (n : ℕ) → cond b 0 n ≤ n
    choice true n = omega arith
    choice false n = omega arith

    pub seen : Seen l w look
    seen = record {
      few = omega (arith, own_is, aged_is, few l now i h);
      spares = omega (arith, own_is, s.first, spares_within l i h f);
      staying = omega (arith, staying_is, choice out 1);
      low = omega (arith, grid_is, s.low);
      grids = omega (arith, grid_is, grids_is, choice out (grid_count_at l i), grids_in l f i h);
      stamps_low = omega (arith, stamp_is, s.stamps_low);
      stamps = omega (arith, stamp_is, stamps_is, choice out (stamp_count_at l i), stamps_in_lem l f i h);
      light = omega (arith, bytes_is, aged_is, bytes_few l now i h f);
    }

    -- ---- one texture more

    module _ (v : Pass) (T' D' S' N' P' : List ℕ) (ev : v ≡ pass_on w look) (eT : T' ≡ looked_put T i look w)
        (eD : D' ≡ laid doomed_stride write_doomed (length l.retiring / retiring_stride) l.pool.first (l.pool.doomed + w.count)
        (given_records S look.bytes w.first look.aged) D)
        (eS : S' ≡ moved S (spare_stride * w.kept) (spare_stride * (w.first + look.aged)) (spare_stride * (look.own - look.aged)))
        (eN : N' ≡ moved N w.grids look.grid look.grids)
        (eP : P' ≡ moved P w.stamps look.stamp look.stamps)
        (lT : length T' ≡ length T) (lD : length D' ≡ length D) (lS : length S' ≡ length S) (lN : length N' ≡ length N)
        (lP : length P' ≡ length P) where
      first_on : v.first ≡ w.first + look.own
      unfolding pass_on
      first_on = ap (λ (x : Pass). x.first) ev

      tracked_on : v.tracked ≡ w.tracked + look.staying
      unfolding pass_on
      tracked_on = ap (λ (x : Pass). x.tracked) ev

      kept_on : v.kept ≡ w.kept + (look.own - look.aged)
      unfolding pass_on
      kept_on = ap (λ (x : Pass). x.kept) ev

      grids_on : v.grids ≡ w.grids + look.grids
      unfolding pass_on
      grids_on = ap (λ (x : Pass). x.grids) ev

      stamps_on_lem : v.stamps ≡ w.stamps + look.stamps
      unfolding pass_on
      stamps_on_lem = ap (λ (x : Pass). x.stamps) ev

      count_on : v.count ≡ w.count + look.aged
      unfolding pass_on
      count_on = ap (λ (x : Pass). x.count) ev

      freed_on : v.freed ≡ w.freed + look.bytes * look.aged
      unfolding pass_on
      freed_on = ap (λ (x : Pass). x.freed) ev

      doomed_on : D' ≡ laid doomed_stride write_doomed (length l.retiring / retiring_stride) l.pool.first l.pool.doomed (map doomed_record (given_to l now (i + 1)))
          l.doomed
      unfolding look_of
      doomed_on =
          eD
          ∙ ap (λ rs. laid doomed_stride write_doomed (length l.retiring / retiring_stride) l.pool.first (l.pool.doomed + w.count) rs D)
          (ap (λ (x : Look). given_records S x.bytes w.first x.aged) here ∙ given_now t₀.bytes k₀ ∙ given_records_lem l now i h f)
          ∙ doomed_next l now i h (length l.retiring / retiring_stride) l.pool.first l.pool.doomed w.count D s.count s.doomed

      first_grids : first_grid l (i + 1) ≡ first_grid l (suc i)
      first_grids = ap (first_grid l) (add-one i)

      first_stamps : first_stamp l (i + 1) ≡ first_stamp l (suc i)
      first_stamps = ap (first_stamp l) (add-one i)

      -- what the two cases share
      further : (tracked : v.tracked ≡ length (kept_to l now (i + 1))) → v.kept ≡ length (every_spare (kept_to l now (i + 1)))
          → v.grids ≡ total newest_used (kept_to l now (i + 1)) → v.stamps ≡ total stamps_used (kept_to l now (i + 1))
          → T' ≡ textures_after (trimmed l now (i + 1)) l
          → S' ≡ spares_after (trimmed l now (i + 1)) l
          → N' ≡ newest_after (trimmed l now (i + 1)) l → P' ≡ stamps_after (trimmed l now (i + 1)) l
          → length (flat_map newest_of (kept_to l now (i + 1))) ≡ v.grids → length (flat_map stamps_of (kept_to l now (i + 1))) ≡ v.stamps
          → Sofar l now (i + 1) v T' D' S' N' P'
      further tracked kept grids stamps_used_lem textures spares newest stamps newest_long stamps_long = record {
        at = omega arith;
        first = omega (arith, first_on, own_is, s.first, total_next texture_stride read_texture (λ t. t.spares) l.textures i);
        tracked = tracked;
        kept = kept;
        grids = grids;
        stamps_used_lem = stamps_used_lem;
        count =
            omega (
              arith,
              count_on,
              aged_is,
              s.count,
              ap length (given_next l now i h),
              length-append (given_to l now i) (given_one now (state_of l i)),
              given_count l now i h,
            );
        freed = omega (
          arith,
          freed_on,
          bytes_is,
          s.freed,
          ap doomed_bytes (given_next l now i h),
          total_append (λ (d : Doomed ℕ). d.bytes) (given_to l now i) (given_one now (state_of l i)),
          given_bytes l now i h f,
        );
        fewer = omega (arith, tracked_on, s.fewer, seen.staying);
        low = omega (arith, grids_on, s.low, grids_is, choice out (grid_count_at l i), grid_next l f i h, first_grids);
        stamps_low = omega (arith, stamps_on_lem, s.stamps_low, stamps_is, choice out (stamp_count_at l i), stamp_next l f i h, first_stamps);
        all = omega (arith, count_on, kept_on, first_on, s.all, seen.few);
        light = omega (arith, freed_on, count_on, s.light, seen.light);
        textures = textures;
        doomed = doomed_on;
        spares = spares;
        newest = newest;
        stamps = stamps;
        newest_long = newest_long;
        stamps_long = stamps_long;
        t_long = lT ∙ s.t_long;
        d_long = lD ∙ s.d_long;
        s_long = lS ∙ s.s_long;
        n_long = lN ∙ s.n_long;
        p_long = lP ∙ s.p_long;
      }

      -- the texture is dropped
      dropped : out ≡ true → Sofar l now (i + 1) v T' D' S' N' P'
      unfolding looked_put
      dropped b =
          let same = dropped_next l now i h b in
          let gone : look.staying ≡ 0 = staying_is ∙ ap (λ (c : Bool). cond c 0 1) b in
          let no_grids : look.grids ≡ 0 = grids_is ∙ ap (λ (c : Bool). cond c 0 (grid_count_at l i)) b in
          let no_stamps : look.stamps ≡ 0 = stamps_is ∙ ap (λ (c : Bool). cond c 0 (stamp_count_at l i)) b in
          let empty : look.own - look.aged ≡ 0 = ap₂ (λ (m n : ℕ). m - n) own_is aged_is ∙ none_left l now i h f b in
          let back = sym same in
          further
          (omega (arith, tracked_on, gone, s.tracked, ap length same))
          (omega (arith, kept_on, empty, s.kept, ap (λ (ts : List (VersionState ℕ)). length (every_spare ts)) same))
          (omega (arith, grids_on, no_grids, s.grids, ap (total newest_used) same))
          (omega (arith, stamps_on_lem, no_stamps, s.stamps_used_lem, ap (total stamps_used) same))
          (eT
          ∙ ap (λ (c : Bool). cond c T (sets T (texture_stride * w.tracked) (write_texture (looked_record look w (texture_in T i)))))
          (eq-eqb look.staying 0 gone)
          ∙ s.textures ∙ textures_as l (trimmed l now i) (trimmed l now (i + 1)) back)
          (eS ∙ ap (λ (n : ℕ). moved S (spare_stride * w.kept) (spare_stride * (w.first + look.aged)) n)
          (let z : spare_stride * (look.own - look.aged) ≡ 0 = omega (arith, empty) in z)
          ∙ sym (moved_none S (spare_stride * w.kept) (spare_stride * (w.first + look.aged)))
          ∙ s.spares ∙ spares_as l (trimmed l now i) (trimmed l now (i + 1)) back)
          (eN ∙ ap (λ (n : ℕ). moved N w.grids look.grid n) no_grids
          ∙ sym (moved_none N w.grids look.grid)
          ∙ s.newest ∙ newest_as l (trimmed l now i) (trimmed l now (i + 1)) back)
          (eP ∙ ap (λ (n : ℕ). moved P w.stamps look.stamp n) no_stamps
          ∙ sym (moved_none P w.stamps look.stamp)
          ∙ s.stamps ∙ stamps_as l (trimmed l now i) (trimmed l now (i + 1)) back)
          (omega (arith, grids_on, no_grids, s.newest_long, ap (λ (ts : List (VersionState ℕ)). length (flat_map newest_of ts)) same))
          (omega (arith, stamps_on_lem, no_stamps, s.stamps_long, ap (λ (ts : List (VersionState ℕ)). length (flat_map stamps_of ts)) same))

      -- it stays
      stays : out ≡ false → Sofar l now (i + 1) v T' D' S' N' P'
      unfolding looked_put
      stays b =
          let one : look.staying ≡ 1 = staying_is ∙ ap (λ (c : Bool). cond c 0 1) b in
          let grids : look.grids ≡ grid_count_at l i = grids_is ∙ ap (λ (c : Bool). cond c 0 (grid_count_at l i)) b in
          let stamps : look.stamps ≡ stamp_count_at l i = stamps_is ∙ ap (λ (c : Bool). cond c 0 (stamp_count_at l i)) b in
          let p = trimmed l now i in
          let new = newest_stays l now i h f b w.grids s.low s.newest_long in
          let old = stamps_stay l now i h f b w.stamps s.stamps_low s.stamps_long in
          let fewer = few l now i h in
          further
          (omega (arith, tracked_on, one, s.tracked, tracked_stays l now i h f b))
          (omega (arith, kept_on, own_is, aged_is, s.kept, kept_stay l now i h f b))
          (omega (arith, grids_on, grids, s.grids, grids_stay l now i h f b))
          (omega (arith, stamps_on_lem, stamps, s.stamps_used_lem, stamps_used_stay l now i h f b))
          (eT
          ∙ ap (λ (c : Bool). cond c T (sets T (texture_stride * w.tracked) (write_texture (looked_record look w (texture_in T i)))))
          (ne_eqb look.staying 0 (λ q. let y : ⊥ = omega (arith, one, q) in y))
          ∙ ap₂ (λ (x : List ℕ) (r : TextureRecord). sets x (texture_stride * w.tracked) (write_texture r)) s.textures
          (ap₂ (λ (x : Look) (t : TextureRecord). looked_record x w t) here record_now)
          ∙ textures_stay l now i h f b w s.tracked s.grids s.stamps_used_lem (omega (arith, s.fewer, textures_fit_lem l f)))
          (eS
          ∙ ap (λ (x : List ℕ). moved x (spare_stride * w.kept) (spare_stride * (w.first + look.aged)) (spare_stride * (look.own - look.aged))) s.spares
          ∙ ap₂ (λ (m n : ℕ). moved (spares_after p l) (spare_stride * w.kept) m n)
          (let z : spare_stride * (w.first + look.aged) ≡ spare_stride * (spares_to l.textures i + k₀) = omega (arith, s.first, aged_is) in z)
          (let z : spare_stride * (look.own - look.aged) ≡ spare_stride * (t₀.spares - k₀) = omega (arith, own_is, aged_is) in z)
          ∙ spares_stay l now i h f b w.kept s.kept (omega (arith, s.first, s.all)))
          (eN ∙ ap (λ (x : List ℕ). moved x w.grids look.grid look.grids) s.newest
          ∙ ap₂ (λ (m n : ℕ). moved (newest_after p l) w.grids m n) grid_is grids ∙ new.0)
          (eP ∙ ap (λ (x : List ℕ). moved x w.stamps look.stamp look.stamps) s.stamps
          ∙ ap₂ (λ (m n : ℕ). moved (stamps_after p l) w.stamps m n) stamp_is stamps ∙ old.0)
          (omega (arith, new.1, grids_on, grids))
          (omega (arith, old.1, stamps_on_lem, stamps))

      pub sofar_next : Sofar l now (i + 1) v T' D' S' N' P'
      sofar_next = go out refl
        where
          go : (b : Bool) → out ≡ b → Sofar l now (i + 1) v T' D' S' N' P'
          go true q = dropped q
          go false q = stays q
