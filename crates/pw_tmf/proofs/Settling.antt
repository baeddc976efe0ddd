-- Lists of before-images that are put back, the last list first.
use Rattle.std.proofs.Common.{◌≡◌, ℕ, ◌∙◌, sym, ap, subst, List, [], ◌∷◌, ◌++◌, length, Some}
use Rattle.std.specs.Prelude.{All, reverse}
use Rattle.std.proofs.lemmas.List.Elements.{All-pop, All-push}
use Rattle.pw_blocks.specs.Blocks.{BlocksState}
use Rattle.pw_paired.specs.State.{BeforeImage}
use Rattle.pw_paired.specs.Units.{restored_files}
use Rattle.pw_tmf.specs.Tmf.{AreImages, all_pending, files_of, key_lengths, stored}
use Rattle.pw_tmf.proofs.Drained.{restored-append}
use Rattle.pw_tmf.proofs.Reversed.{reverse-push}

-- some of the lists have been put back, and these are left
pub record IsSettling (files : List BlocksState) (pending : List (List BeforeImage)) (now : List BlocksState) (left : List (List BeforeImage)) : Type 0 where
  pub keys : key_lengths now ≡ key_lengths files
  pub count : length now ≡ length files
  pub same : restored_files (key_lengths files) (all_pending (reverse left)) (stored now) ≡ restored_files (key_lengths files) (all_pending (reverse pending)) (stored files)
  pub fit : All (AreImages (key_lengths files) (length files)) left

module _ (files now : List BlocksState) (pending left rest : List (List BeforeImage)) (images : List BeforeImage) (is : left ≡ rest ++ images ∷ []) (d : IsSettling files pending now left) where
  -- the last list fits, and so do those before it
  last-fits-as : AreImages (key_lengths files) (length files) images
  last-fits-as = (All-pop (AreImages (key_lengths files) (length files)) left rest (Some images) is d.fit).1

  rest-fits : All (AreImages (key_lengths files) (length files)) rest
  rest-fits = (All-pop (AreImages (key_lengths files) (length files)) left rest (Some images) is d.fit).0

  pub last-fits : AreImages (key_lengths now) (length now) images
  last-fits = subst (λ n. AreImages (key_lengths now) n images) (sym d.count) (subst (λ (k : ℕ → ℕ). AreImages k (length files) images) (sym d.keys) last-fits-as)

  -- it is put back first
  first-back : restored_files (key_lengths files) (all_pending (reverse rest)) (restored_files (key_lengths files) images (stored now)) ≡ restored_files (key_lengths files) (all_pending (reverse pending)) (stored files)
  first-back =
      sym (restored-append (key_lengths files) images (all_pending (reverse rest)) (stored now))
      ∙ (ap (λ xs. restored_files (key_lengths files) (all_pending xs) (stored now)) (sym (ap reverse is ∙ reverse-push rest images)) ∙ d.same)

  module _ (next : List BlocksState) (others : List BeforeImage) (keys : key_lengths next ≡ key_lengths now) (count : length next ≡ length now)
      (same : restored_files (key_lengths now) others (stored next) ≡ restored_files (key_lengths now) images (stored now)) where
    same_as : restored_files (key_lengths files) others (stored next) ≡ restored_files (key_lengths files) images (stored now)
    same_as = subst (λ (k : ℕ → ℕ). restored_files k others (stored next) ≡ restored_files k images (stored now)) d.keys same

    -- the whole list is put back
    pub settling-more : others ≡ [] → IsSettling files pending next rest
    settling-more none = record {
      keys = keys ∙ d.keys;
      count = count ∙ d.count;
      same = ap (restored_files (key_lengths files) (all_pending (reverse rest))) (ap (λ xs. restored_files (key_lengths files) xs (stored next)) (sym none) ∙ same_as) ∙ first-back;
      fit = rest-fits;
    }

    -- or some of it, and the others are left
    pub settling-some : AreImages (key_lengths now) (length now) others → (left_now : List (List BeforeImage)) → left_now ≡ rest ++ others ∷ [] → IsSettling files pending next left_now
    settling-some fit left_now are =
        let P : List BeforeImage → Type 0 = AreImages (key_lengths files) (length files) in
        let fits : P others = subst (λ n. AreImages (key_lengths files) n others) d.count (subst (λ (k : ℕ → ℕ). AreImages k (length now) others) d.keys fit) in
        record {
          keys = keys ∙ d.keys;
          count = count ∙ d.count;
          same = ap (λ xs. restored_files (key_lengths files) (all_pending xs) (stored next)) (ap reverse are ∙ reverse-push rest others)
              ∙ (restored-append (key_lengths files) others (all_pending (reverse rest)) (stored next)
              ∙ (ap (restored_files (key_lengths files) (all_pending (reverse rest))) same_as ∙ first-back));
          fit = subst (All P) (sym are) (All-push P rest others rest-fits fits);
        }

-- what is left once some lists were put back tells the same files
pub settled-same : (files now : List BlocksState) (pending left : List (List BeforeImage)) → IsSettling files pending now left → files_of now (reverse left) ≡ files_of files (reverse pending)
settled-same files now pending left d = ap (λ (k : ℕ → ℕ). restored_files k (all_pending (reverse left)) (stored now)) d.keys ∙ d.same
