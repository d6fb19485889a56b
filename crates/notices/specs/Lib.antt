pub mod NoticeText
