pub mod Edition
pub mod Operation
pub mod Role
pub mod RoleNumbers
pub mod RoleRow
pub mod Separation
