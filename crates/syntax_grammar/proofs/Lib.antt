mod CheckLaws
mod IndexLaws
mod JoinLaws
mod ReachLaws
